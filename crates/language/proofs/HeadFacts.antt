-- Names and heads are read where they stand, and what is read stands there. Assumes nothing.
use Rattle.std.proofs.Common.{◌≡◌, ℕ, ◌+◌, ◌-◌, ◌<◌, ◌≤◌, Bool, true, false, ◌&&◌, eqb, ltb, leb, List, [], ◌∷◌, ◌++◌, length, get_or, take, drop, Some, None, Option, sym, refl, ap, ◌∙◌, subst, ap₂, add-zero, arith, ltb-true, lt-ltb, eqb-true, le-leb, leb-true}
use Rattle.std.specs.List.{between}
use Rattle.std.proofs.lemmas.List.{length-append}
use Rattle.std.proofs.lemmas.List.Edits.{length-between}
use Rattle.std.proofs.lemmas.Bool.{and_parts, and_from}
use Rattle.language.specs.Basics.{pick}
use Rattle.language.specs.Bytes.{Name, eight, with_length, all_bytes}
use Rattle.language.specs.Expr.{limit}
use Rattle.language.specs.Fits.{a_name}
use Rattle.language.specs.Heads.{Head, h_num, h_var, h_bin, h_call, h_bind, h_choice, h_tell, head_spelled, a_head}
use Rattle.language.specs.Reading.{found, number_at, name_end, Token, token, num_at, bin_at, call_at, named_at, kind_at, head_at}
use Rattle.language.proofs.ListFacts.{every_take, every_drop}
use Rattle.language.proofs.ReadingFacts.{found_some, pick_some, pick-found}
use Rattle.language.proofs.StandsFacts.{Stands, stands-first, stands-second, stands_join, stands_in, stands-taken, taken-stands, stands_byte, byte_stands, length-eight, number_stands, NumberThere, number_there}

pub length_with : (x : List ℕ) → length (with_length x) ≡ 8 + length x
length_with x = grind (arith, length-append, length-eight)

-- a name that fits has 1 to 32 bytes
pub name_short : (x : Name) → a_name x ≡ true → (1 ≤ length x) × (length x ≤ 32)
name_short x h = grind arith

-- a name that stands there is read
module _ (bs : List ℕ) (i : ℕ) (x : Name) (fits : a_name x ≡ true) (h : Stands bs i (with_length x)) where
  name_room : i + 8 + length x ≤ length bs
  name_room = omega (arith, stands_in bs i (with_length x) (omega (arith, length_with x)) h, length_with x)

  pub name-stands : name_end bs i ≡ Some (i + 8 + length x)
  name-stands = grind (arith, number_stands, stands-first, name_room)

  pub name_bytes : between (i + 8) (i + 8 + length x) bs ≡ x
  name_bytes =
      ap (λ n. take n (drop (i + 8) bs)) (let z : i + 8 + length x - (i + 8) ≡ length x = omega arith in z)
      ∙ ap (λ k. take (length x) (drop k bs)) (let z : i + 8 ≡ i + length (eight (length x)) = omega (arith, length-eight (length x)) in z)
      ∙ stands-taken bs (i + length (eight (length x))) x (stands-second bs i (eight (length x)) x h)

-- what was read as a name: its bytes are these
pub record NameThere (bs : List ℕ) (i j : ℕ) : Type 0 where
  pub stands : Stands bs i (with_length (between (i + 8) j bs))
  pub fits : a_name (between (i + 8) j bs) ≡ true
  pub end : j ≡ i + length (with_length (between (i + 8) j bs))
  pub room : j ≤ length bs

module _ (bs : List ℕ) (i n : ℕ) (bytes : all_bytes bs ≡ true) (there : NumberThere bs i n) (low : 1 ≤ n) (high : n ≤ 32) (room : i + 8 + n ≤ length bs) where
  name-length : length (between (i + 8) (i + 8 + n) bs) ≡ n
  name-length = omega (arith, length-between bs (i + 8) (i + 8 + n) room)

  name-fits : a_name (between (i + 8) (i + 8 + n) bs) ≡ true
  name-fits = grind (arith, name-length, every_take, every_drop)

  bytes_stand : Stands bs (i + 8) (between (i + 8) (i + 8 + n) bs)
  bytes_stand = grind (arith, taken-stands, name-length)

  name_all_stands : Stands bs i (with_length (between (i + 8) (i + 8 + n) bs))
  name_all_stands = grind (arith, stands_join, name-length, length-eight, bytes_stand)

  name-made : NameThere bs i (i + 8 + n)
  name-made =
      record { stands = name_all_stands; fits = name-fits; end = omega (arith, length_with (between (i + 8) (i + 8 + n) bs), name-length); room = room }

pub name_there : (bs : List ℕ) (i j : ℕ) → all_bytes bs ≡ true → name_end bs i ≡ Some j → NameThere bs i j
name_there bs i j bytes e =
    let got = found_some _ _ _ e in
    let n = got.0 in
    let kept = pick_some _ _ _ got.2 in
    let both = and_parts _ _ kept.0 in
    let sizes = and_parts _ _ both.0 in
    subst (NameThere bs i) kept.1
    (name-made bs i n bytes (number_there bs i n bytes got.1) (leb-true _ _ sizes.0) (leb-true _ _ sizes.1) (leb-true _ _ both.1))

-- a head that stands there is read
first_kind : (bs : List ℕ) (i k : ℕ) (q : List ℕ) → Stands bs i (k ∷ q) → head_at bs i ≡ kind_at k bs (i + 1)
first_kind bs i k q h =
    ap (λ t. pick t (kind_at (get_or bs i 0) bs (i + 1)) None)
    (lt-ltb i (length bs) (omega (arith, stands_in bs i (k ∷ []) (omega arith) (stands-first bs i (k ∷ []) q h))))
    ∙ ap (λ b. kind_at b bs (i + 1)) (stands_byte bs i k (stands-first bs i (k ∷ []) q h))

after_kind : (bs : List ℕ) (i k : ℕ) (q : List ℕ) → Stands bs i (k ∷ q) → Stands bs (i + 1) q
after_kind bs i k q h = stands-second bs i (k ∷ []) q h

named_stands : (f : Name → Head) (bs : List ℕ) (i : ℕ) (x : Name) → a_name x ≡ true → Stands bs i (with_length x) →
    named_at f bs i ≡ Some (token (f x) (i + length (with_length x)))
named_stands f bs i x fits h = grind (arith, name-stands, fits, name_bytes, length_with)

call-stands : (bs : List ℕ) (i : ℕ) (x : Name) (k : ℕ) → a_name x ≡ true → k ≤ 16 → Stands bs i (with_length x ++ k ∷ []) →
    call_at bs i ≡ Some (token (h_call x k) (i + length (with_length x ++ k ∷ [])))
call-stands bs i x k fits few h =
    ap (λ o. found o (λ j. pick (ltb j (length bs) && leb (get_or bs j 0) 16) (Some (token (h_call (between (i + 8) j bs) (get_or bs j 0)) (j + 1))) None))
    (name-stands bs i x fits name)
    ∙ ap (λ t. pick t (Some (token (h_call (between (i + 8) (i + 8 + length x) bs) (get_or bs (i + 8 + length x) 0)) (i + 8 + length x + 1))) None)
    (and_from _ _ (lt-ltb _ _ room) (ap (λ b. leb b 16) count ∙ le-leb _ _ few))
    ∙ ap₂ (λ y b. Some (token (h_call y b) (i + 8 + length x + 1))) (name_bytes bs i x fits name) count
    ∙ ap (λ j. Some (token (h_call x k) j)) (omega (arith, length_with x, length-append (with_length x) (k ∷ [])))
  where
    name : Stands bs i (with_length x)
    name = stands-first bs i (with_length x) (k ∷ []) h

    rest : Stands bs (i + 8 + length x) (k ∷ [])
    rest = subst (λ j. Stands bs j (k ∷ [])) (omega (arith, length_with x)) (stands-second bs i (with_length x) (k ∷ []) h)

    count : get_or bs (i + 8 + length x) 0 ≡ k
    count = stands_byte bs (i + 8 + length x) k rest

    room : i + 8 + length x < length bs
    room = omega (arith, stands_in bs (i + 8 + length x) (k ∷ []) (omega arith) rest)

num-stands : (bs : List ℕ) (i n : ℕ) → n < limit → Stands bs i (eight n) → num_at bs i ≡ Some (token (h_num n) (i + 8))
num-stands bs i n small h = grind (arith, number_stands)

bin-stands : (bs : List ℕ) (i k : ℕ) → k < 6 → Stands bs i (k ∷ []) → bin_at bs i ≡ Some (token (h_bin k) (i + 1))
bin-stands bs i k few h =
    ap₂ (λ t b. pick (t && ltb b 6) (Some (token (h_bin b) (i + 1))) None) (lt-ltb _ _ (omega (arith, stands_in bs i (k ∷ []) (omega arith) h))) (stands_byte bs i k h)
    ∙ ap (λ t. pick t (Some (token (h_bin k) (i + 1))) None) (lt-ltb _ _ few)

pub head-stands : (bs : List ℕ) (i : ℕ) (h : Head) → a_head h ≡ true → Stands bs i (head_spelled h) → head_at bs i ≡ Some (token h (i + length (head_spelled h)))
unfolding a_head head_spelled
head-stands bs i (h_num n) fits s =
    first_kind bs i 0 (eight n) s ∙ num-stands bs (i + 1) n (ltb-true _ _ fits) (after_kind bs i 0 (eight n) s)
    ∙ ap (λ j. Some (token (h_num n) j)) (omega (arith, length-eight n))
head-stands bs i (h_var x) fits s = first_kind bs i 1 (with_length x) s ∙ named_stands h_var bs (i + 1) x fits (after_kind bs i 1 (with_length x) s) ∙ ap (λ j. Some (token (h_var x) j)) (omega arith)
head-stands bs i (h_bin k) fits s =
    first_kind bs i 2 (k ∷ []) s ∙ bin-stands bs (i + 1) k (ltb-true _ _ fits) (after_kind bs i 2 (k ∷ []) s) ∙ ap (λ j. Some (token (h_bin k) j)) (omega arith)
head-stands bs i (h_call x k) fits s =
    first_kind bs i 3 (with_length x ++ k ∷ []) s
    ∙ call-stands bs (i + 1) x k (and_parts _ _ fits).0 (leb-true _ _ (and_parts _ _ fits).1) (after_kind bs i 3 (with_length x ++ k ∷ []) s)
    ∙ ap (λ j. Some (token (h_call x k) j)) (omega arith)
head-stands bs i (h_bind x) fits s = first_kind bs i 4 (with_length x) s ∙ named_stands h_bind bs (i + 1) x fits (after_kind bs i 4 (with_length x) s) ∙ ap (λ j. Some (token (h_bind x) j)) (omega arith)
head-stands bs i h_choice fits s = first_kind bs i 5 [] s
head-stands bs i h_tell fits s = first_kind bs i 6 [] s

-- what was read as a head stands there
pub record HeadThere (bs : List ℕ) (i : ℕ) (t : Token) : Type 0 where
  pub fits : a_head t.head ≡ true
  pub stands : Stands bs i (head_spelled t.head)
  pub end : t.end ≡ i + length (head_spelled t.head)

-- after the byte of its kind
record RestThere (k : ℕ) (bs : List ℕ) (i : ℕ) (t : Token) : Type 0 where
  rest : List ℕ
  spelled : head_spelled t.head ≡ k ∷ rest
  fits : a_head t.head ≡ true
  stands : Stands bs i rest
  end : t.end ≡ i + length rest

with_kind : (k : ℕ) (bs : List ℕ) (i : ℕ) (t : Token) → i < length bs → get_or bs i 0 ≡ k → RestThere k bs (i + 1) t → HeadThere bs i t
with_kind k bs i t h b r =
    record {
      fits = r.fits;
      stands = subst (Stands bs i) (sym r.spelled) (stands_join bs i (k ∷ []) r.rest (subst (λ x. Stands bs i (x ∷ [])) b (byte_stands bs i h)) r.stands);
      end = omega (arith, r.end, ap length r.spelled);
    }

num-there : (bs : List ℕ) (i : ℕ) (t : Token) → all_bytes bs ≡ true → num_at bs i ≡ Some t → RestThere 0 bs i t
unfolding a_head head_spelled
num-there bs i t bytes e =
    let got = found_some (number_at bs i) (λ n. pick (ltb n limit) (Some (token (h_num n) (i + 8))) None) t e in
    let n = got.0 in
    let kept = pick_some (ltb n limit) (token (h_num n) (i + 8)) t got.2 in
    subst (RestThere 0 bs i) kept.1
    (record { rest = eight n; spelled = refl; fits = kept.0; stands = (number_there bs i n bytes got.1).stands; end = omega (arith, length-eight n) })

var-there : (bs : List ℕ) (i : ℕ) (t : Token) → all_bytes bs ≡ true → named_at h_var bs i ≡ Some t → RestThere 1 bs i t
unfolding a_head head_spelled
var-there bs i t bytes e =
    let got = found_some _ _ _ e in
    let n = name_there bs i got.0 bytes got.1 in
    let is : token (h_var (between (i + 8) got.0 bs)) got.0 ≡ t = cc got.2 in
    subst (RestThere 1 bs i) is (record { rest = with_length (between (i + 8) got.0 bs); spelled = refl; fits = n.fits; stands = n.stands; end = n.end })

bind-there : (bs : List ℕ) (i : ℕ) (t : Token) → all_bytes bs ≡ true → named_at h_bind bs i ≡ Some t → RestThere 4 bs i t
unfolding a_head head_spelled
bind-there bs i t bytes e =
    let got = found_some _ _ _ e in
    let n = name_there bs i got.0 bytes got.1 in
    let is : token (h_bind (between (i + 8) got.0 bs)) got.0 ≡ t = cc got.2 in
    subst (RestThere 4 bs i) is (record { rest = with_length (between (i + 8) got.0 bs); spelled = refl; fits = n.fits; stands = n.stands; end = n.end })

bin-there : (bs : List ℕ) (i : ℕ) (t : Token) → bin_at bs i ≡ Some t → RestThere 2 bs i t
unfolding a_head head_spelled
bin-there bs i t e =
    let kept = pick_some _ _ _ e in
    let both = and_parts _ _ kept.0 in
    subst (RestThere 2 bs i) kept.1
    (record { rest = get_or bs i 0 ∷ []; spelled = refl; fits = both.1; stands = byte_stands bs i (ltb-true _ _ both.0); end = refl })

call-there : (bs : List ℕ) (i : ℕ) (t : Token) → all_bytes bs ≡ true → call_at bs i ≡ Some t → RestThere 3 bs i t
unfolding a_head head_spelled
call-there bs i t bytes e =
    let got = found_some (name_end bs i) (λ j. pick (ltb j (length bs) && leb (get_or bs j 0) 16) (Some (token (h_call (between (i + 8) j bs) (get_or bs j 0)) (j + 1))) None) t e in
    let j = got.0 in
    let x = between (i + 8) j bs in
    let n = name_there bs i j bytes got.1 in
    let kept = pick_some (ltb j (length bs) && leb (get_or bs j 0) 16) (token (h_call x (get_or bs j 0)) (j + 1)) t got.2 in
    let both = and_parts _ _ kept.0 in
    subst (RestThere 3 bs i) kept.1
    (record {
      rest = with_length x ++ get_or bs j 0 ∷ [];
      spelled = refl;
      fits = and_from (a_name x) (leb (get_or bs j 0) 16) n.fits both.1;
      stands = stands_join bs i (with_length x) (get_or bs j 0 ∷ []) n.stands (subst (λ k. Stands bs k (get_or bs j 0 ∷ [])) n.end (byte_stands bs j (ltb-true _ _ both.0)));
      end = omega (arith, n.end, length-append (with_length x) (get_or bs j 0 ∷ []));
    })

-- one kind after the other
pub either : {A R : Type 0} (k n : ℕ) (this rest : Option A) (a : A) → (k ≡ n → this ≡ Some a → R) → (rest ≡ Some a → R) →
    pick (eqb k n) this rest ≡ Some a → R
either {A} {R} k n this rest a yes-it no-it e = go (eqb k n) refl e
  where
    go : (t : Bool) → eqb k n ≡ t → pick t this rest ≡ Some a → R
    go true h e = yes-it (eqb-true _ _ h) e
    go false h e = no-it e

pub head-there : (bs : List ℕ) (i : ℕ) (t : Token) → all_bytes bs ≡ true → head_at bs i ≡ Some t → HeadThere bs i t
unfolding a_head head_spelled
head-there bs i t bytes e =
    either k 0 _ _ t (λ is e. with_kind 0 bs i t here is (num-there bs (i + 1) t bytes e))
    (either k 1 _ _ t (λ is e. with_kind 1 bs i t here is (var-there bs (i + 1) t bytes e))
    (either k 2 _ _ t (λ is e. with_kind 2 bs i t here is (bin-there bs (i + 1) t e))
    (either k 3 _ _ t (λ is e. with_kind 3 bs i t here is (call-there bs (i + 1) t bytes e))
    (either k 4 _ _ t (λ is e. with_kind 4 bs i t here is (bind-there bs (i + 1) t bytes e))
    (either k 5 _ _ t (λ is e. with_kind 5 bs i t here is (alone 5 h_choice refl refl e))
    (either k 6 _ _ t (λ is e. with_kind 6 bs i t here is (alone 6 h_tell refl refl e))
    (λ e. absurd cc)))))))
    (pick-found (ltb i (length bs)) (kind_at k bs (i + 1)) t e).1
  where
    k : ℕ
    k = get_or bs i 0

    here : i < length bs
    here = ltb-true _ _ (pick-found _ _ _ e).0

    alone : (n : ℕ) (h : Head) → head_spelled h ≡ n ∷ [] → a_head h ≡ true → Some (token h (i + 1)) ≡ Some t → RestThere n bs (i + 1) t
    alone n h p q e =
        let is : token h (i + 1) ≡ t = cc in
        subst (RestThere n bs (i + 1)) is (record { rest = []; spelled = p; fits = q; stands = ap (λ j. drop j bs) (sym (add-zero (i + 1))); end = omega arith })
