-- What is written byte by byte: how far it is after each, and how pieces are joined. Assumes nothing.
use Rattle.std.proofs.Common.{◌≡◌, ℕ, ◌+◌, ◌*◌, ◌<◌, ◌≤◌, Bool, true, false, ltb, List, [], ◌∷◌, ◌++◌, length, get_or, drop, set, Some, None, Option, sym, refl, ap, ◌∙◌, subst, arith, ltb-false, ltb-true, lt-ltb}
use Rattle.std.proofs.lemmas.List.{drop_more, drop_all, length-append}
use Rattle.std.specs.Prelude.{⊤}
use Rattle.language.specs.Basics.{pick}
use Rattle.language.proofs.ByteFacts.{bytes_append}
use Rattle.memory.specs.Build.{Writing, writing_at, writing, word_with, pushed, pushed_all, Pushed, Appended}
use Rattle.memory.specs.declared.build.Writer.{Writer}

abbrev pub written_in : Writing → ℕ
written_in w = w.words * 8 + w.filled

-- how far a writing is after so many bytes more
pub record Written (w v : Writing) (n : ℕ) : Type 0 where
  pub filled : v.filled < 8
  pub count : written_in v ≡ written_in w + n

written_byte : (w : Writing) (v : ℕ) → w.filled < 8 → Written w (pushed w v) 1
written_byte w v h = go (ltb w.filled 7) refl
  where
    go : (t : Bool) → ltb w.filled 7 ≡ t →
        Written w (pick t (writing_at w.area w.words (w.filled + 1) (word_with w v)) (writing_at (set w.area w.words (word_with w v)) (w.words + 1) 0 0)) 1
    go true e = record { filled = omega (arith, ltb-true _ _ e); count = omega arith }
    go false e = record { filled = omega arith; count = omega (arith, ltb-false _ _ e) }

written_all : (w : Writing) (vs : List ℕ) → w.filled < 8 → Written w (pushed_all w vs) (length vs)
unfolding pushed_all
written_all w [] h = record { filled = h; count = omega arith }
written_all w (v ∷ vs) h =
    let one = written_byte w v h in
    let all = written_all (pushed w v) vs one.filled in
    record { filled = all.filled; count = omega (arith, one.count, all.count) }

-- one byte after the other: what is to come from here on was to come from the start
pub record Going (w : Writing) (vs : List ℕ) (k : ℕ) (v : Writing) : Type 0 where
  pub left : pushed_all w vs ≡ pushed_all v (drop k vs)
  pub so_far : Written w v k
  pub bytes : (j : ℕ) → j < k → ltb (get_or vs j 0) 256 ≡ true

pub going_from : (w : Writing) (vs : List ℕ) → w.filled < 8 → Going w vs 0 w
going_from w vs h = record { left = refl; so_far = record { filled = h; count = omega arith }; bytes = λ j l. absurd (omega arith) }

pub going_more : (w u v : Writing) (vs : List ℕ) (k b : ℕ) → Going w vs k u → k < length vs → v ≡ pushed u b → b ≡ get_or vs k 0 → b < 256 → Going w vs (k + 1) v
unfolding pushed_all
going_more w u v vs k b g h e f byte =
    let one = written_byte u b g.so_far.filled in
    record {
      left = g.left ∙ ap (pushed_all u) (drop_more vs k 0 h) ∙ ap (λ c. pushed_all (pushed u c) (drop (k + 1) vs)) (sym f) ∙ ap (λ x. pushed_all x (drop (k + 1) vs)) (sym e);
      so_far = subst (λ x. Written w x (k + 1)) (sym e) (record { filled = one.filled; count = omega (arith, one.count, g.so_far.count) });
      bytes = λ j l. below j (ltb j k) refl l;
    }
  where
    below : (j : ℕ) (t : Bool) → ltb j k ≡ t → j < k + 1 → ltb (get_or vs j 0) 256 ≡ true
    below j true s l = g.bytes j (ltb-true j k s)
    below j false s l = ap (λ i. ltb (get_or vs i 0) 256) (let z : j ≡ k = omega (arith, ltb-false j k s) in z) ∙ ap (λ v. ltb v 256) (sym f) ∙ lt-ltb b 256 byte

pub going_all : (w v : Writing) (vs : List ℕ) (k : ℕ) → Going w vs k v → length vs ≤ k → v ≡ pushed_all w vs
unfolding pushed_all
going_all w v vs k g h = sym (g.left ∙ ap (pushed_all v) (drop_all k vs h))

pushed-append : (us vs : List ℕ) (w : Writing) → pushed_all w (us ++ vs) ≡ pushed_all (pushed_all w us) vs
unfolding pushed_all
pushed-append [] vs w = refl
pushed-append (u ∷ us) vs w = pushed-append us vs (pushed w u)

-- how many bytes are written once some were appended
pub appended-count : (b : Writer) (vs : List ℕ) (c : Writer) → Pushed b vs c → c.build.written ≡ b.build.written + length vs
appended-count b vs c a =
    let w = subst (λ v. Written (writing b) v (length vs)) (sym a.so) (written_all (writing b) vs (omega arith)) in
    omega (arith, w.count)

-- a piece, and what comes after it
pub pushed_then : (b : Writer) (us : List ℕ) (c : Writer) (vs : List ℕ) (d : Writer) → Pushed b us c → Pushed c vs d → Pushed b (us ++ vs) d
pushed_then b us c vs d p q =
    record {
      so = q.so ∙ ap (λ w. pushed_all w vs) p.so ∙ sym (pushed-append us vs (writing b));
      room = omega (arith, q.room, appended-count b us c p, length-append us vs);
      bytes = bytes_append us vs p.bytes q.bytes;
    }

-- where there is no room for a piece, there is none for more
pub appends_stop : (b : Writer) (us vs : List ℕ) → 65536 < b.build.written + length us → 65536 < b.build.written + length (us ++ vs)
appends_stop b us vs p = omega (arith, p, length-append us vs)

-- where there is no room for what comes after a piece, there is none for both
pub appends_full : (b : Writer) (us : List ℕ) (c : Writer) (vs : List ℕ) → Pushed b us c → 65536 < c.build.written + length vs → 65536 < b.build.written + length (us ++ vs)
appends_full b us c vs p q = omega (arith, q, appended-count b us c p, length-append us vs)

-- where there is room for both, what comes after a piece is written
pub appends_then : (b : Writer) (us : List ℕ) (c : Writer) (vs : List ℕ) (r : Option ⊤) (d : Writer) → b.build.written + length (us ++ vs) ≤ 65536 → Pushed b us c → Appended c vs r d →
    Appended b (us ++ vs) r d
appends_then b us c vs None d room p q = absurd (omega (arith, room, appends_full b us c vs p q.1))
appends_then b us c vs (Some _) d room p q = pushed_then b us c vs d p q
