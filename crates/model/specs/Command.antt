-- Commands, their spelling, and which there may be. Assumes nothing: these are definitions.
use Rattle.std.specs.Prelude.{ℕ, Bool, true, ◌&&◌, ltb, List, [], ◌∷◌, ◌++◌, length, nat_le, nat_lt}
use Rattle.language.specs.Basics.{every}
use Rattle.language.specs.Bytes.{eight, with_length, Name}
use Rattle.language.specs.Expr.{Program}
use Rattle.language.specs.Spelling.{program_spelled}
use Rattle.language.specs.Fits.{a_name, a_program}

pub data Command : Type 0 where
  load : Program → Command
  show : Name → Command
  names : Command
  rename_bind : Name → List ℕ → Name → Command  -- in a function, the bind at a place
  rename_param : Name → ℕ → Name → Command
  rename_fun : Name → Name → Command
  extract : Name → List ℕ → Name → Command  -- what stands at a place becomes a function
  inline_bind : Name → List ℕ → Command
  inline_call : Name → List ℕ → Command
  turn_cond : Name → List ℕ → Command  -- the other way round
  drop_fun : Name → Command
  undo : Command

abbrev pub place_spelled : List ℕ → List ℕ
place_spelled ks = eight (length ks) ++ ks

unfoldable pub spelled : Command → List ℕ
spelled (load p) = 1 ∷ program_spelled p
spelled (show f) = 2 ∷ with_length f
spelled names = 3 ∷ []
spelled (rename_bind f ks y) = 4 ∷ with_length f ++ place_spelled ks ++ with_length y
spelled (rename_param f i y) = 5 ∷ with_length f ++ i ∷ with_length y
spelled (rename_fun f g) = 6 ∷ with_length f ++ with_length g
spelled (extract f ks g) = 7 ∷ with_length f ++ place_spelled ks ++ with_length g
spelled (inline_bind f ks) = 8 ∷ with_length f ++ place_spelled ks
spelled (inline_call f ks) = 9 ∷ with_length f ++ place_spelled ks
spelled (turn_cond f ks) = 10 ∷ with_length f ++ place_spelled ks
spelled (drop_fun f) = 11 ∷ with_length f
spelled undo = 12 ∷ []

abbrev pub a_place : List ℕ → Bool
a_place ks = nat_le (length ks) 4096 && every (λ k. ltb k 16) ks

unfoldable pub fits : Command → Bool
fits (load p) = a_program p
fits (show f) = a_name f
fits names = true
fits (rename_bind f ks y) = (a_name f && a_name y) && a_place ks
fits (rename_param f i y) = (a_name f && a_name y) && nat_lt i 16
fits (rename_fun f g) = a_name f && a_name g
fits (extract f ks g) = (a_name f && a_name g) && a_place ks
fits (inline_bind f ks) = a_name f && a_place ks
fits (inline_call f ks) = a_name f && a_place ks
fits (turn_cond f ks) = a_name f && a_place ks
fits (drop_fun f) = a_name f
fits undo = true
