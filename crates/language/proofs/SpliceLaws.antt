-- Bytes with some rows replaced, one row or unchanged piece after another, from the end to the start. Assumes nothing.
use Rattle.std.proofs.Common.{◌≡◌, ℕ, ◌+◌, ◌-◌, ◌≤◌, List, [], ◌∷◌, ◌++◌, length, take, drop, sym, refl, ap, ◌∙◌, ap₂, arith}
use Rattle.std.specs.List.{between}
use Rattle.std.proofs.lemmas.List.{append_assoc, take-append-drop, take-take, drop-drop, drop-take}
use Rattle.std.proofs.lemmas.List.Edits.{between_none}
use Rattle.language.specs.Splice.{spliced_from}
use Rattle.language.proofs.StandsFacts.{Stands}
use Rattle.language.proofs.ContentsLaws.{stands-between}

pub between_join : (bs : List ℕ) (i j k : ℕ) → i ≤ j → j ≤ k → between i k bs ≡ between i j bs ++ between j k bs
between_join bs i j k p q =
    sym (take-append-drop (j - i) (between i k bs))
    ∙ ap₂ ◌++◌ (take-take (j - i) (k - i) (drop i bs) (omega arith))
    (ap (λ n. drop (j - i) (take n (drop i bs))) (let z : k - i ≡ (j - i) + (k - j) = omega arith in z)
    ∙ drop-take (j - i) (k - j) (drop i bs)
    ∙ ap (take (k - j)) (drop-drop (j - i) i bs ∙ ap (λ n. drop n bs) (let z : i + (j - i) ≡ j = omega arith in z)))

-- none of the positions, which are in order, is before m
abbrev pub Late : ℕ → List ℕ → Type 0
Late m [] = Unit {0}
Late m (k ∷ ks) = m ≤ k

late_lower : (l m : ℕ) (ks : List ℕ) → l ≤ m → Late m ks → Late l ks
late_lower l m [] h k = tt
late_lower l m (n ∷ ks) h k = omega arith

-- from i on, the bytes with the rows at these positions replaced are `out`
pub record Splices (bs new : List ℕ) (width : ℕ) (ks : List ℕ) (i : ℕ) (out : List ℕ) : Type 0 where
  pub late : Late i ks
  pub made : spliced_from bs new width ks i ≡ out

module _ (bs new : List ℕ) (width : ℕ) where
  pub splices_end : (i : ℕ) → Splices bs new width [] i (drop i bs)
  unfolding spliced_from
  splices_end i = record { late = tt; made = refl }

  -- what stands before all positions stays
  pub splices_past : (i : ℕ) (p ks out : List ℕ) → Stands bs i p → Splices bs new width ks (i + length p) out → Splices bs new width ks i (p ++ out)
  unfolding spliced_from
  splices_past i p [] out s r = record { late = tt; made = s ∙ ap (λ l. p ++ l) r.made }
  splices_past i p (k ∷ ks) out s r =
      record {
        late = late_lower i (i + length p) (k ∷ ks) (omega arith) r.late;
        made =
            ap (λ l. l ++ (new ++ spliced_from bs new width ks (k + width)))
            (between_join bs i (i + length p) k (omega arith) r.late ∙ ap (λ l. l ++ between (i + length p) k bs) (stands-between bs i p s))
            ∙ append_assoc p (between (i + length p) k bs) (new ++ spliced_from bs new width ks (k + width))
            ∙ ap (λ l. p ++ l) r.made;
      }

  -- a row that is replaced
  pub splices_new : (k : ℕ) (ks out : List ℕ) → Splices bs new width ks (k + width) out → Splices bs new width (k ∷ ks) k (new ++ out)
  unfolding spliced_from
  splices_new k ks out r =
      record { late = omega arith; made = ap₂ (λ l q. l ++ (new ++ q)) (between_none bs k) r.made }
