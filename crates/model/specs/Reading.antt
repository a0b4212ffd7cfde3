-- Reading commands: what a text asks for, None where it is no command. Total: any row of numbers gives something definite.
-- Assumes nothing: these are definitions.
use Rattle.std.specs.Prelude.{◌≡◌, ℕ, ◌+◌, true, ◌&&◌, ltb, List, [], ◌∷◌, length, drop, Some, None, Option, ◌==◌, nat_le, nat_lt, slice_index}
use Rattle.std.specs.List.{between}
use Rattle.language.specs.Basics.{pick, every, none_of}
use Rattle.language.specs.Bytes.{all_bytes}
use Rattle.language.specs.Expr.{Program}
use Rattle.language.specs.Spelling.{program_spelled}
use Rattle.language.specs.Fits.{a_program}
use Rattle.language.specs.Reading.{found, number_at, name_end, is_program}
use Rattle.model.specs.Command.{Command, load, show, names, rename_bind, rename_param, rename_fun, extract, inline_bind, inline_call, turn_cond, drop_fun, undo}

-- what a text asks for: to load the program that these bytes spell, or another command
pub data Ask : Type 0 where
  loading : List ℕ → Ask
  asking : Command → Ask

-- the command that it stands for
unfoldable pub Asks : Ask → Command → Type 0
Asks (loading bs) c = (p : Program) × (program_spelled p ≡ bs) × (a_program p ≡ true) × (c ≡ load p)
Asks (asking a) c = c ≡ a

-- what was read first, and what comes after it
pub record Field : Type 0 where
  pub value : List ℕ
  pub rest : List ℕ

abbrev pub field : List ℕ → List ℕ → Field
field x bs = record { value = x; rest = bs }

abbrev pub name_in : List ℕ → Option Field
name_in bs = found (name_end bs 0) (λ j. Some (field (between 8 j bs) (drop j bs)))

abbrev pub index_in : List ℕ → Option Field
index_in [] = None
index_in (i ∷ bs) = pick (nat_lt i 16) (Some (field (i ∷ []) bs)) None

abbrev pub place_of : ℕ → List ℕ → Option Field
place_of n bs =
    pick ((nat_le n 4096 && nat_le (8 + n) (length bs)) && every (λ k. ltb k 16) (between 8 (8 + n) bs))
    (Some (field (between 8 (8 + n) bs) (drop (8 + n) bs)))
    None

abbrev pub place_in : List ℕ → Option Field
place_in bs = found (number_at bs 0) (λ n. place_of n bs)

-- a name with nothing after it
abbrev pub last_name : List ℕ → Option (List ℕ)
last_name bs = found (name_in bs) (λ f. pick (none_of f.rest) (Some f.value) None)

-- a function's name, a place in it, and what comes after them
pub record Located : Type 0 where
  pub function : List ℕ
  pub place : List ℕ
  pub rest : List ℕ

abbrev pub located : List ℕ → List ℕ → List ℕ → Located
located x ks bs = record { function = x; place = ks; rest = bs }

abbrev pub target_in : List ℕ → Option Located
target_in bs = found (name_in bs) (λ f. found (place_in f.rest) (λ g. Some (located f.value g.value g.rest)))

-- the same, with nothing after it
pub record Target : Type 0 where
  pub function : List ℕ
  pub place : List ℕ

abbrev pub target : List ℕ → List ℕ → Target
target x ks = record { function = x; place = ks }

abbrev pub last_target : List ℕ → Option Target
last_target bs = found (target_in bs) (λ t. pick (none_of t.rest) (Some (target t.function t.place)) None)

-- a command with nothing after it
abbrev pub whole : List ℕ → Command → Option Ask
whole bs c = pick (none_of bs) (Some (asking c)) None

abbrev pub load_in : List ℕ → Option Ask
load_in bs = pick (is_program bs) (Some (loading bs)) None

abbrev pub by_name : (List ℕ → Command) → List ℕ → Option Ask
by_name c bs = found (last_name bs) (λ x. Some (asking (c x)))

abbrev pub by_names : (List ℕ → List ℕ → Command) → List ℕ → Option Ask
by_names c bs = found (name_in bs) (λ f. found (last_name f.rest) (λ y. Some (asking (c f.value y))))

abbrev pub by_place : (List ℕ → List ℕ → Command) → List ℕ → Option Ask
by_place c bs = found (last_target bs) (λ t. Some (asking (c t.function t.place)))

abbrev pub by_place_name : (List ℕ → List ℕ → List ℕ → Command) → List ℕ → Option Ask
by_place_name c bs = found (target_in bs) (λ t. found (last_name t.rest) (λ y. Some (asking (c t.function t.place y))))

abbrev pub by_index_name : (List ℕ → ℕ → List ℕ → Command) → List ℕ → Option Ask
by_index_name c bs =
    found (name_in bs) (λ f. found (index_in f.rest) (λ i. found (last_name i.rest) (λ y. Some (asking (c f.value (slice_index i.value 0) y)))))

-- a command of kind k, whose other bytes are bs
abbrev pub command_in : ℕ → List ℕ → Option Ask
command_in k bs =
    pick (k == 1) (load_in bs) (pick (k == 2) (by_name show bs) (pick (k == 3) (whole bs names) (pick (k == 4) (by_place_name rename_bind bs)
    (pick (k == 5) (by_index_name rename_param bs) (pick (k == 6) (by_names rename_fun bs) (pick (k == 7) (by_place_name extract bs)
    (pick (k == 8) (by_place inline_bind bs) (pick (k == 9) (by_place inline_call bs) (pick (k == 10) (by_place turn_cond bs)
    (pick (k == 11) (by_name drop_fun bs) (pick (k == 12) (whole bs undo) None)))))))))))

abbrev pub of_kind : List ℕ → Option Ask
of_kind [] = None
of_kind (k ∷ bs) = command_in k bs

unfoldable pub asked : List ℕ → Option Ask
asked text = pick (all_bytes text) (of_kind text) None
