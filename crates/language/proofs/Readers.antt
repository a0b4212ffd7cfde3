-- Readers of what is spelled: a spelling that can be read again, with whatever behind it, spells one thing only.
-- A reader takes what it wants from the front of the bytes; readers join as spellings do. Assumes nothing.
use Rattle.std.proofs.Common.{◌≡◌, ℕ, zero, suc, ◌+◌, ◌*◌, ◌/◌, ◌%◌, ◌^◌, ◌<◌, List, [], ◌∷◌, ◌++◌, length, take, drop, sym, ap, ◌∙◌, ap₂, append_assoc, mul_assoc, pow-suc, arith}
use lib.Seq.{take-append_seam, drop-append_seam}
use Rattle.std.specs.Int.Digits.{number_from_digits_after, number_from_digits}
use Rattle.language.specs.Bytes.{in_bytes, eight, with_length, Name}

-- what was read, and what is left
pub record Got (A : Type 0) : Type 0 where
  pub value : A
  pub rest : List ℕ

abbrev pub got : {A : Type 0} → A → List ℕ → Got A
got a bs = record { value = a; rest = bs }

abbrev pub Reader : Type 0 → Type 0
Reader A = List ℕ → Got A

-- the reader takes u for a, whatever comes behind
abbrev pub Spells : {A : Type 0} → Reader A → List ℕ → A → Type 0
Spells r u a = (w : List ℕ) → r (u ++ w) ≡ got a w

pub spells_once : {A : Type 0} (r : Reader A) (u v : List ℕ) (a b : A) → Spells r u a → Spells r v b → u ≡ v → a ≡ b
spells_once r u v a b in-u in-v h = ap (λ g. g.value) (sym (in-u []) ∙ ap (λ w. r (w ++ [])) h ∙ in-v [])

abbrev pub one_read : {A B : Type 0} → Reader A → (A → B) → Reader B
one_read r f bs = got (f (r bs).value) (r bs).rest

abbrev pub both_read : {A B C : Type 0} → Reader A → Reader B → (A → B → C) → Reader C
both_read r s f bs = got (f (r bs).value (s (r bs).rest).value) (s (r bs).rest).rest

-- the first byte says which reader goes on
abbrev pub by_tag : {A : Type 0} → A → (ℕ → Reader A) → Reader A
by_tag a f [] = got a []
by_tag a f (t ∷ bs) = f t bs

pub one_spells : {A B : Type 0} (r : Reader A) (f : A → B) (u : List ℕ) (a : A) → Spells r u a → Spells (one_read r f) u (f a)
one_spells r f u a h w = ap (λ g. got (f g.value) g.rest) (h w)

pub both_spells : {A B C : Type 0} (r : Reader A) (s : Reader B) (f : A → B → C) (u v : List ℕ) (a : A) (b : B) → Spells r u a → Spells s v b →
    Spells (both_read r s f) (u ++ v) (f a b)
both_spells r s f u v a b in-u in-v w =
    ap (both_read r s f) (append_assoc u v w)
    ∙ ap (λ g. got (f g.value (s g.rest).value) (s g.rest).rest) (in-u (v ++ w)) ∙ ap (λ g. got (f a g.value) g.rest) (in-v w)

number_in_bytes : (k n acc : ℕ) (bs : List ℕ) → n < 256 ^ k → number_from_digits_after 256 acc (in_bytes k n bs) ≡ number_from_digits_after 256 (acc * 256 ^ k + n) bs
unfolding in_bytes
number_in_bytes zero n acc bs h = grind arith
number_in_bytes (suc k) n acc bs h =
    number_in_bytes k (n / 256) acc (n % 256 ∷ bs) (omega (arith, pow-suc 256 k))
    ∙ ap (λ a. number_from_digits_after 256 a bs) (omega (arith, ap (λ m. acc * m) (pow-suc 256 k), mul_assoc acc (256 ^ k) 256))

pub read_eight : Reader ℕ
read_eight bs = got (number_from_digits 256 (take 8 bs)) (drop 8 bs)

pub eight_spells : (n : ℕ) → n < 18446744073709551616 → Spells read_eight (eight n) n
unfolding read_eight in_bytes
eight_spells n h w = ap (λ m. got m w) (number_in_bytes 8 n 0 [] h ∙ omega arith)

pub read_name : Reader Name
read_name bs = got (take (read_eight bs).value (read_eight bs).rest) (drop (read_eight bs).value (read_eight bs).rest)

pub name_spells : (x : Name) → length x < 18446744073709551616 → Spells read_name (with_length x) x
unfolding read_name
name_spells x h w =
    ap read_name (append_assoc (eight (length x)) x w)
    ∙ ap (λ g. got (take g.value g.rest) (drop g.value g.rest)) (eight_spells (length x) h (x ++ w))
    ∙ ap₂ got (take-append_seam x w) (drop-append_seam x w)
