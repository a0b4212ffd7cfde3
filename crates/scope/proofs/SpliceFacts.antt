-- The program with a new name, piece by piece: what was written, and what is to come. Assumes nothing.
use Rattle.std.proofs.Common.{◌≡◌, ℕ, zero, suc, ◌+◌, ◌-◌, ◌<◌, ◌≤◌, Bool, true, false, ltb, List, [], ◌∷◌, ◌++◌, length, get_or, take, drop, min, None, Option, sym, refl, ap, ◌∙◌, subst, arith, ltb-false, ltb-true}
use Rattle.std.specs.List.{between}
use Rattle.std.proofs.lemmas.List.{drop_all, drop_more, length-append, append_assoc}
use Rattle.std.proofs.lemmas.Slice.{between_to_end}
use Rattle.language.specs.Splice.{spliced_from}
use Rattle.scope.specs.Splicing.{Replaced}
use Rattle.memory.specs.declared.build.Writer.{Writer}
use Rattle.memory.specs.Build.{writing, pushed_all, Pushed, finished}
use Rattle.memory.specs.Layout.{zero_words, slot_filled}
use Rattle.memory.proofs.BuildFacts.{appended-count, pushed_then}
use Rattle.memory.proofs.BuildLaws.{built_begun}

-- past the end nothing is to come but new names
late : (bs new : List ℕ) (w : ℕ) (ks : List ℕ) (i j : ℕ) → length bs ≤ i → length bs ≤ j → spliced_from bs new w ks i ≡ spliced_from bs new w ks j
unfolding spliced_from
late bs new w [] i j p q = drop_all i bs p ∙ sym (drop_all j bs q)
late bs new w (k ∷ ks) i j p q = ap (λ l. l ++ (new ++ spliced_from bs new w ks (k + w))) (none i p ∙ sym (none j q))
  where
    take_none : (n : ℕ) → take {A = ℕ} n [] ≡ []
    take_none zero = refl
    take_none (suc n) = refl

    none : (i : ℕ) → length bs ≤ i → between i k bs ≡ []
    none i p = ap (take (k - i)) (drop_all i bs p) ∙ take_none (k - i)

-- all was written
pub record Whole (bs : List ℕ) (c : Writer) : Type 0 where
  pub short : c.build.written ≤ 65536
  pub count : c.build.written ≡ length bs
  pub stands : finished (writing c) ≡ slot_filled bs

module _ (bs new : List ℕ) (w : ℕ) where
  -- where the rest begins, as far as it can be said
  next_from : (ks : List ℕ) (k from most n : ℕ) → length bs ≤ most → w ≡ 8 + n → from ≡ min (min (k + 8) most + n) most → spliced_from bs new w ks (k + w) ≡ spliced_from bs new w ks from
  next_from ks k from most n short wide is = go (ltb (k + w) most) refl
    where
      go : (t : Bool) → ltb (k + w) most ≡ t → spliced_from bs new w ks (k + w) ≡ spliced_from bs new w ks from
      go true e = ap (spliced_from bs new w ks) (let z : k + w ≡ from = omega (arith, ltb-true _ _ e) in z)
      go false e = late bs new w ks (k + w) from (omega (arith, ltb-false _ _ e)) (omega (arith, ltb-false _ _ e))

  module _ (ks : List ℕ) (b₀ : Writer) where
    abbrev pub total : List ℕ
    total = spliced_from bs new w ks 0

    -- of all that is to come at first, so much was written after k names, and the rest of the program is to come then
    pub record SplicedTo (k : ℕ) (b : Writer) (from : ℕ) : Type 0 where
      pub done : List ℕ
      pub written : Pushed b₀ done b
      pub all : total ≡ done ++ spliced_from bs new w (drop k ks) from

    pub splice_none : b₀.build.written ≤ 65536 → SplicedTo 0 b₀ 0
    unfolding pushed_all
    splice_none room = record { done = []; written = record { so = refl; room = omega arith; bytes = refl }; all = refl }

    module _ (k : ℕ) (b : Writer) (from : ℕ) (so_far : SplicedTo k b from) where
      -- a name more
      module _ (more : k < length ks) (to : ℕ) (is : to ≡ get_or ks k 0) where
        abbrev pub piece : List ℕ
        piece = between from to bs ++ new

        with-piece : total ≡ (so_far.done ++ piece) ++ spliced_from bs new w (drop (k + 1) ks) (to + w)
        unfolding spliced_from
        with-piece =
            so_far.all ∙ ap (λ l. so_far.done ++ spliced_from bs new w l from) (drop_more ks k 0 more ∙ ap (λ v. v ∷ drop (k + 1) ks) (sym is))
            ∙ ap (λ r. so_far.done ++ r) (sym (append_assoc (between from to bs) new (spliced_from bs new w (drop (k + 1) ks) (to + w))))
            ∙ sym (append_assoc so_far.done piece (spliced_from bs new w (drop (k + 1) ks) (to + w)))

        pub splice_stop : b₀.build.written ≡ 0 → 65536 < b.build.written + length piece → 65536 < length total
        splice_stop start full =
            omega (
              arith,
              start,
              full,
              appended-count b₀ so_far.done b so_far.written,
              ap length with-piece,
              length-append (so_far.done ++ piece) (spliced_from bs new w (drop (k + 1) ks) (to + w)),
              length-append so_far.done piece,
            )

        pub splice_more : (c : Writer) → Pushed b piece c → (next most width : ℕ) → length bs ≤ most → w ≡ 8 + width → next ≡ min (min (to + 8) most + width) most → SplicedTo (k + 1) c next
        splice_more c p next most width short wide at =
            record {
              done = so_far.done ++ piece;
              written = pushed_then b₀ so_far.done b piece c so_far.written p;
              all = with-piece ∙ ap (λ r. (so_far.done ++ piece) ++ r) (next_from (drop (k + 1) ks) to next most width short wide at);
            }

      -- the rest of the program, after the last name
      module _ (over : length ks ≤ k) where
        with-rest : total ≡ so_far.done ++ between from (length bs) bs
        unfolding spliced_from
        with-rest =
            so_far.all ∙ ap (λ l. so_far.done ++ spliced_from bs new w l from) (drop_all k ks over) ∙ ap (λ r. so_far.done ++ r) (sym (between_to_end bs from (length bs) (omega arith)))

        module _ (len : ℕ) (is : len ≡ length bs) where
          pub rest_stop : b₀.build.written ≡ 0 → 65536 < b.build.written + length (between from len bs) → 65536 < length total
          rest_stop start full =
              omega (
                arith,
                start,
                full,
                ap (λ n. length (between from n bs)) is,
                appended-count b₀ so_far.done b so_far.written,
                ap length with-rest,
                length-append so_far.done (between from (length bs) bs),
              )

          pub rest_more : (c : Writer) → Pushed b (between from len bs) c → b₀.build.written ≡ 0 → b₀.build.word ≡ 0 → b₀.area.now ≡ zero_words 8192 → Whole total c
          rest_more c p none empty zeros =
              let q = pushed_then b₀ so_far.done b (between from len bs) c so_far.written p in
              let whole = subst (λ l. Pushed b₀ l c) (ap (λ k. so_far.done ++ between from k bs) is ∙ sym with-rest) q in
              record {
                short = omega (arith, whole.room, appended-count b₀ total c whole);
                count = omega (arith, appended-count b₀ total c whole, none);
                stands = built_begun b₀ c total none empty zeros whole;
              }

pub replaced_none : (new n : List ℕ) (r : Option ℕ) → r ≡ None → 65536 < length new → Replaced new r n
replaced_none new n r is full = subst (λ o. Replaced new o n) (sym is) full
