-- What holds of every element, and lists made of lists. Assumes nothing.
use Rattle.std.proofs.Common.{◌≡◌, ℕ, zero, suc, ◌+◌, ◌-◌, ◌<◌, ◌≤◌, Bool, true, false, List, [], ◌∷◌, ◌++◌, length, get_or, take, drop, set, sym, refl, ap, ◌∙◌, ap₂, zero-add, arith}
use Rattle.std.proofs.lemmas.List.{append_assoc}
use Rattle.std.proofs.lemmas.List.Edits.{paste_more, paste_all}
use Rattle.std.proofs.lemmas.List.Recursion.{and_at, and_from_places}
use lib.Seq.{take-append-add}
use Rattle.std.proofs.lemmas.Bool.{and_parts, and_from}
use Rattle.language.specs.Basics.{pick, every, each, those, flat}

module _ {A : Type 0} (p : A → Bool) where
  pub every_take : (n : ℕ) (xs : List A) → every p xs ≡ true → every p (take n xs) ≡ true
  every_take zero xs h = refl
  every_take (suc n) [] h = refl
  every_take (suc n) (x ∷ xs) h =
      let q = and_parts _ _ h in and_from _ _ q.0 (every_take n xs q.1)

  pub every_drop : (n : ℕ) (xs : List A) → every p xs ≡ true → every p (drop n xs) ≡ true
  every_drop zero xs h = h
  every_drop (suc n) [] h = refl
  every_drop (suc n) (x ∷ xs) h = every_drop n xs (and_parts _ _ h).1

  pub every_append : (xs ys : List A) → every p xs ≡ true → every p ys ≡ true → every p (xs ++ ys) ≡ true
  every_append [] ys h k = k
  every_append (x ∷ xs) ys h k =
      let q = and_parts _ _ h in and_from (p x) (every p (xs ++ ys)) q.0 (every_append xs ys q.1 k)

  pub every-parts : (xs ys : List A) → every p (xs ++ ys) ≡ true → (every p xs ≡ true) × (every p ys ≡ true)
  every-parts [] ys h = (refl, h)
  every-parts (x ∷ xs) ys h =
      let q = and_parts _ _ h in
      let r = every-parts xs ys q.1 in
      (and_from (p x) (every p xs) q.0 r.0, r.1)

  pub every-those : (q : A → Bool) (xs : List A) → every p xs ≡ true → every p (those q xs) ≡ true
  every-those q [] h = refl
  every-those q (x ∷ xs) h = go (q x) (every-those q xs both.1)
    where
      both : (p x ≡ true) × (every p xs ≡ true)
      both = and_parts _ _ h

      go : (t : Bool) → every p (those q xs) ≡ true → every p (pick t (x ∷ those q xs) (those q xs)) ≡ true
      go true ih = and_from _ _ both.0 ih
      go false ih = ih

pub every_so : {A : Type 0} (p q : A → Bool) → ((x : A) → p x ≡ true → q x ≡ true) → (xs : List A) → every p xs ≡ true → every q xs ≡ true
every_so p q h [] k = refl
every_so p q h (x ∷ xs) k =
    let both = and_parts _ _ k in and_from _ _ (h x both.0) (every_so p q h xs both.1)

pub every-each : {A B : Type 0} (p : A → Bool) (q : B → Bool) (f : A → B) → ((x : A) → p x ≡ true → q (f x) ≡ true) → (xs : List A) → every p xs ≡ true →
    every q (each f xs) ≡ true
every-each p q f h [] k = refl
every-each p q f h (x ∷ xs) k =
    let both = and_parts _ _ k in and_from _ _ (h x both.0) (every-each p q f h xs both.1)

pub each_long : {A B : Type 0} (f : A → B) (xs : List A) → length (each f xs) ≡ length xs
each_long f [] = refl
each_long f (x ∷ xs) = ap suc (each_long f xs)

pub each_append : {A B : Type 0} (f : A → B) (xs ys : List A) → each f (xs ++ ys) ≡ each f xs ++ each f ys
each_append f [] ys = refl
each_append f (x ∷ xs) ys = ap (◌∷◌ (f x)) (each_append f xs ys)

pub flat_append : {A B : Type 0} (f : A → List B) (xs ys : List A) → flat f (xs ++ ys) ≡ flat f xs ++ flat f ys
flat_append f [] ys = refl
flat_append f (x ∷ xs) ys = grind (arith, append_assoc, flat_append f xs ys)

-- a loop that writes one element after the other over a row
pub written_more : (xs row old : List ℕ) (k v : ℕ) → k < length xs → k < length old → row ≡ take k xs ++ drop k old → v ≡ get_or xs k 0 →
    set row k v ≡ take (k + 1) xs ++ drop (k + 1) old
written_more xs row old k v h l e p = ap₂ (λ r w. set r k w) e p ∙ simp zero-add at (paste_more old 0 xs k 0 (omega arith) h)

pub written_all : (xs row old : List ℕ) (k n : ℕ) → row ≡ take k xs ++ drop k old → length xs ≡ n → k ≡ n → row ≡ xs ++ drop n old
written_all xs row old k n e l p = e ∙ simp zero-add at (paste_all old 0 xs k (p ∙ sym l)) ∙ ap (λ j. xs ++ drop j old) p

-- what holds of every element, by its place
pub every_from : {A : Type 0} (p : A → Bool) (d : A) (xs : List A) → ((k : ℕ) → k < length xs → p (get_or xs k d) ≡ true) → every p xs ≡ true
every_from p d xs h = and_from_places (every p) p refl (λ x ys. refl) xs d h

pub every-at : {A : Type 0} (p : A → Bool) (d : A) (xs : List A) → every p xs ≡ true → (k : ℕ) → k < length xs → p (get_or xs k d) ≡ true
every-at p d xs h k l = and_at (every p) p refl (λ x ys. refl) xs k d l h

pub take_past : {A : Type 0} (n : ℕ) (xs ys : List A) → length xs ≤ n → take n (xs ++ ys) ≡ xs ++ take (n - length xs) ys
take_past n xs ys h = ap (λ k. take k (xs ++ ys)) (let z : n ≡ length xs + (n - length xs) = omega arith in z) ∙ take-append-add xs ys (n - length xs)
