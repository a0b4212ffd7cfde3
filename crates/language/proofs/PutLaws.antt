-- The bytes of a program, with something else put at a place of one of its functions: what is around it stays. The bytes around the function,
-- its front, and the bytes around the place in its body, joined. Assumes nothing.
use Rattle.std.proofs.Common.{◌≡◌, ℕ, ◌+◌, true, List, ◌∷◌, ◌++◌, length, Some, ap, ◌∙◌, arith}
use Rattle.std.proofs.lemmas.List.{append_assoc, length-append}
use Rattle.language.specs.Basics.{pick, each, flat, same}
use Rattle.language.specs.Bytes.{Name, eight}
use Rattle.language.specs.Expr.{Expr, Fun, Program}
use Rattle.language.specs.Names.{distinct}
use Rattle.language.specs.Places.{at_place, put_at}
use Rattle.language.specs.Spelling.{expr_spelled, fun_spelled, program_spelled}
use Rattle.language.specs.Fits.{a_program}
use Rattle.language.specs.Reading.{found, name_end, params_end, place_at}
use Rattle.language.proofs.ByteFacts.{bytes_program}
use Rattle.language.proofs.StandsFacts.{Stands, length-eight}
use Rattle.language.proofs.ProgramFacts.{params_spelled}
use Rattle.language.proofs.ContentsLaws.{FoundIn}
use Rattle.language.proofs.PlaceLaws.{Placed, place_some}
use Rattle.language.proofs.ChangeLaws.{fun_front, fun_split, body_from, BodyAt, body_at, changed-spelled, changed-fun}

-- a function with another body
abbrev pub bodied : Fun → Expr → Fun
bodied f e = record { name = f.name; params = f.params; body = e }

-- c stands at a place of the function that stands at o in the spelling of p
pub record PutIn (p : Program) (o : ℕ) (f : Fun) (ks : List ℕ) (c : Expr) : Type 0 where
  pub body : ℕ
  pub before : List ℕ
  pub after : List ℕ
  pub body_is : found (name_end (program_spelled p) o) (λ j. params_end (program_spelled p) j) ≡ Some body
  pub stands : Stands (program_spelled p) body (expr_spelled f.body)
  pub at_is : place_at (program_spelled p) ks body ≡ Some (length before)
  pub split : program_spelled p ≡ before ++ (expr_spelled c ++ after)
  pub put : (d : Expr) → program_spelled (each (λ h. pick (same h.name f.name) (bodied f (put_at f.body ks d)) h) p) ≡ before ++ (expr_spelled d ++ after)

around : (n b h l x r a : List ℕ) → n ++ (b ++ ((h ++ (l ++ (x ++ r))) ++ a)) ≡ (n ++ (b ++ (h ++ l))) ++ (x ++ (r ++ a))
around n b h l x r a = simp append_assoc

module _ (p : Program) (fit : a_program p ≡ true) (x : Name) (f : Fun) (r : FoundIn p x f) (ks : List ℕ) (c : Expr) (cs : List Expr) (h : at_place f.body ks ≡ c ∷ cs) where
  there : BodyAt (program_spelled p) r.place.at f
  there = body_at (program_spelled p) (bytes_program p fit) r.place.at f r.place.fits r.place.stands

  within : Placed (program_spelled p) (body_from r.place.at f) f.body ks c
  within = place_some (program_spelled p) ks (body_from r.place.at f) f.body c cs there.fits there.stands h

  all-before : List ℕ
  all-before = eight (length p) ++ (flat fun_spelled r.place.before ++ (fun_front f ++ within.before))

  all_after : List ℕ
  all_after = within.after ++ flat fun_spelled r.place.after

  spelled-around : (e d : Expr) → expr_spelled e ≡ within.before ++ (expr_spelled d ++ within.after) →
      program_spelled (r.place.before ++ bodied f e ∷ r.place.after) ≡ all-before ++ (expr_spelled d ++ all_after)
  unfolding all-before all_after
  spelled-around e d is =
      changed-spelled p r.place.before f (bodied f e) r.place.after r.place.split
      ∙ ap (λ l. eight (length p) ++ (flat fun_spelled r.place.before ++ (l ++ flat fun_spelled r.place.after))) (fun_split (bodied f e) ∙ ap (λ l. fun_front f ++ l) is)
      ∙ around (eight (length p)) (flat fun_spelled r.place.before) (fun_front f) within.before (expr_spelled d) within.after (flat fun_spelled r.place.after)

  at_before : body_from r.place.at f + length within.before ≡ length all-before
  unfolding all-before
  at_before = grind (arith, length-eight, length-append, fun_front, within, params_spelled)

  pub put_program : distinct (each (λ h. h.name) p) ≡ true → PutIn p r.place.at f ks c
  put_program apart =
      record {
        body = body_from r.place.at f;
        before = all-before;
        after = all_after;
        body_is = there.at_is;
        stands = there.stands;
        at_is = within.at_is ∙ ap Some at_before;
        split = ap program_spelled r.place.split ∙ spelled-around f.body c within.split;
        put = λ d.
            ap program_spelled (changed-fun p r.place.before f (bodied f (put_at f.body ks d)) r.place.after r.place.split apart)
            ∙ spelled-around (put_at f.body ks d) d (within.put d);
      }
