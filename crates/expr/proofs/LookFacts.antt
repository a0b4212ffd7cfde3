-- Looking a name up, one name after the other. Assumes nothing.
use Rattle.std.proofs.Common.{◌≡◌, ℕ, zero, suc, ◌+◌, ◌*◌, ◌/◌, ◌%◌, ◌<◌, ◌≤◌, Bool, true, false, cond, List, [], ◌∷◌, Some, Ok, Option, Result, length, take, drop, refl, sym, ap, ap₂, ◌∙◌, subst, suc-mul, mod-lt, arith, eq-eqb, le-leb}
use Rattle.std.specs.List.{position_from}
use Rattle.std.specs.Iterator.{AlwaysYields}
use Rattle.std.specs.Slice.Iter.{chunks_exact_steps, chunks_exact_rest, chunks_exact_size}
use Rattle.std.proofs.lemmas.Iterator.{YieldsList}
use lib.Seq.{take-append_seam, drop-append_seam}
use Rattle.std.proofs.lemmas.List.{length-append}
use Rattle.std.proofs.lemmas.Nat.{div-add-mod'}
use Rattle.language.specs.Basics.{pick, same}
use Rattle.language.specs.Bare.{how_near}
use Rattle.expr.specs.declared.look.LookError.{LookError}
use Rattle.expr.specs.Look.{cut, refusal, reply_of, LookSays}

-- pieces of w bytes, n of them whole, are the names that a row is cut into
module _ (w : ℕ) (some : 0 < w) where
  pieces : (n : ℕ) (s : _) → chunks_exact_size s ≡ w → n * w ≤ length (chunks_exact_rest s) → length (chunks_exact_rest s) < n * w + w →
      AlwaysYields (chunks_exact_steps {A = ℕ}) (λ x. x.now) s (cut n w (chunks_exact_rest s))
  unfolding cut
  pieces zero s e l h = λ x t p. omega (arith, ap length p.1.0, length-append x.now (chunks_exact_rest t), p.1.1)
  pieces (suc n) s e l h = (
    (λ t p. omega (arith, p.1.0, suc-mul n w)),
    λ x t p.
        let long : length x.now ≡ w = p.1.1 ∙ e in
        let first : x.now ≡ take w (chunks_exact_rest s) = sym (ap₂ take (sym long) p.1.0 ∙ take-append_seam x.now (chunks_exact_rest t)) in
        let rest : chunks_exact_rest t ≡ drop w (chunks_exact_rest s) = sym (ap₂ drop (sym long) p.1.0 ∙ drop-append_seam x.now (chunks_exact_rest t)) in
        (first, subst (λ r. AlwaysYields (chunks_exact_steps {A = ℕ}) (λ y. y.now) t (cut n w r)) rest (pieces n t (p.0 ∙ e) (omega (arith, ap length p.1.0, length-append x.now (chunks_exact_rest t), long, suc-mul n w)) (omega (arith, ap length p.1.0, length-append x.now (chunks_exact_rest t), long, suc-mul n w)))),
  )

  pub whole_pieces : (s : _) (bs : List ℕ) → chunks_exact_size s ≡ w → chunks_exact_rest s ≡ bs → YieldsList (chunks_exact_steps {A = ℕ}) (λ x. x.now) s (cut (length bs / w) w bs)
  whole_pieces s bs e f =
      subst (λ r. YieldsList (chunks_exact_steps {A = ℕ}) (λ x. x.now) s (cut (length r / w) w r)) f
      (record { runs = pieces (length (chunks_exact_rest s) / w) s e (omega (arith, div-add-mod' (length (chunks_exact_rest s)) w)) (omega (arith, div-add-mod' (length (chunks_exact_rest s)) w, mod-lt (length (chunks_exact_rest s)) some)) })

-- what is looked for is the first piece that is the name
pub near_position : (x : List ℕ) (xs : List (List ℕ)) (k : ℕ) → position_from (λ y. same y x) k xs ≡ reply_of (how_near xs x k)
unfolding how_near
near_position x [] k = refl
near_position x (y ∷ ys) k = by (same y x) (ap (λ j. position_from (λ z. same z x) j ys) (let on : k + 1 ≡ suc k = omega arith in on) ∙ near_position x ys (suc k))
  where
    by : (t : Bool) → position_from (λ z. same z x) (k + 1) ys ≡ reply_of (how_near ys x (suc k)) → cond t (Some k) (position_from (λ z. same z x) (k + 1) ys) ≡ reply_of (pick t (k ∷ []) (how_near ys x (suc k)))
    by true h = refl
    by false h = h

-- a name that has bytes, among names that are whole
pub says_reply : (bs x : List ℕ) (r : Result (Option ℕ) LookError) → 0 < length x → length bs % length x ≡ 0 → r ≡ Ok (reply_of (how_near (cut (length bs / (length x)) (length x) bs) x 0)) →
    LookSays bs x (refusal bs x) r
says_reply bs x r some whole e =
    let is : refusal bs x ≡ 0 = ap₂ (λ t u. pick t (pick u 0 2) 1) (le-leb 1 (length x) (omega arith)) (eq-eqb _ _ whole) in
    subst (λ k. LookSays bs x k r) (sym is) e
