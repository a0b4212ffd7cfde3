-- What the steps that rename tell, case by case, and what they leave in build area, frames and list. Assumes nothing.
use Rattle.std.proofs.Common.{◌≡◌, ℕ, ◌+◌, ◌<◌, ◌≤◌, Bool, List, ◌++◌, length, take, drop, Some, None, Option, sym, refl, ap, ◌∙◌, subst, ap₂, arith, le-leb}
use lib.ListN.{length-replicate}
use borrow.Author.Tests.{lt-leb}
use Rattle.std.proofs.lemmas.List.{append_assoc, take_at, drop_at, drop-drop, length-append, length-take-le, take-take}
use Rattle.language.specs.Basics.{pick}
use Rattle.language.specs.Bytes.{Name}
use Rattle.language.specs.Binders.{Binder, let_at, own_binder}
use Rattle.language.specs.Contents.{own_names, find_function, body_of}
use Rattle.language.specs.Names.{has}
use Rattle.language.specs.Reading.{place_at}
use Rattle.language.specs.Splice.{names_replaced}
use Rattle.language.specs.Uses.{uses_of}
use Rattle.expr.specs.declared.token.Span.{Span}
use Rattle.expr.specs.Token.{spelled_in}
use Rattle.model.specs.Capture.{others}
use Rattle.model.specs.Engine.{done, refused, Step}
use Rattle.memory.specs.Layout.{memory_words, zero_words, build_at, frames_at, list_at, reserve_at, held, put_words, slot_filled, wiped, built}
use Rattle.memory.proofs.LayoutFacts.{front-held}
use Rattle.machine.specs.History.{committed, accepted, changed}
use Rattle.machine.specs.Machine.{stepped}
use Rattle.machine.specs.Rename.{with_some, renamed_step, rename_bind_step, rename_param_step}
use Rattle.std.specs.declared.result.Result.{Result}
use Rattle.std.specs.declared.result.Result.TheVariants.{Ok, Err}
use Rattle.std.specs.Option.{MatchOption, IfSome, ok_or}
use Rattle.std.proofs.lemmas.Option.{MatchOption-at_some}
use Rattle.std.specs.Borrow.{MutBor}
use Rattle.scope.specs.Splicing.{Replaced}
use Rattle.machine.specs.Renamed.{with_names, program_renamed, Written}
use Rattle.machine.specs.declared.told.Refusal.{Refusal}
use Rattle.machine.specs.declared.told.Refusal.TheVariants.{Captured, TooLarge}
use Rattle.machine.specs.Told.{Told, Does}
use Rattle.machine.proofs.StepFacts.{does_no, does_done}

-- what is wiped depends on header, slots and reserve only
pub wiped-same : (m n : List ℕ) → take build_at n ≡ take build_at m → drop reserve_at n ≡ drop reserve_at m → wiped n ≡ wiped m
unfolding wiped
wiped-same m n front behind =
    ap₂ (λ f r. f ++ (zero_words 57344 ++ r)) front
    (ap (λ k. drop k n) (zeros_end 57344) ∙ behind ∙ ap (λ k. drop k m) (sym (zeros_end 57344)))
  where
    zeros_end : (k : ℕ) → build_at + length (zero_words k) ≡ build_at + k
    zeros_end k = ap (λ j. build_at + j) (length-replicate {A = ℕ} k 0)

-- a memory whose header and slots, and reserve, are another's: build area, frames and list lie between
module _ (m f a b l r n : List ℕ) (is : n ≡ f ++ (a ++ (b ++ (l ++ r)))) (long : length m ≡ memory_words) (front : f ≡ take build_at m) (behind : r ≡ drop reserve_at m)
    (area : length a ≡ 8192) (frames : length b ≡ 40960) (list : length l ≡ 8192) where
  front_long : length f ≡ build_at
  front_long = ap length front ∙ length-take-le build_at m (omega arith)

  pub area-front : take build_at n ≡ take build_at m
  area-front = ap (take build_at) is ∙ take_at f (a ++ (b ++ (l ++ r))) build_at front_long ∙ front

  past_front : drop build_at n ≡ a ++ (b ++ (l ++ r))
  past_front = ap (drop build_at) is ∙ drop_at f (a ++ (b ++ (l ++ r))) build_at front_long

  past_build : drop frames_at n ≡ b ++ (l ++ r)
  past_build = sym (drop-drop 8192 build_at n) ∙ ap (drop 8192) past_front ∙ drop_at a (b ++ (l ++ r)) 8192 area

  pub area-behind : drop reserve_at n ≡ drop reserve_at m
  area-behind =
      sym (drop-drop 8192 list_at n) ∙ ap (drop 8192) (sym (drop-drop 40960 frames_at n) ∙ ap (drop 40960) past_build ∙ drop_at b (l ++ r) 40960 frames)
      ∙ drop_at l r 8192 list ∙ behind

  pub area-wiped : put_words n build_at (zero_words 57344) ≡ wiped m
  unfolding wiped
  area-wiped = wiped-same m n area-front area-behind

  -- a program that was written, with zeros in frames and list
  pub area-changed : (bs : List ℕ) → a ≡ slot_filled bs → accepted n (length bs) ≡ changed m bs
  unfolding accepted changed built
  area-changed bs filled = ap (λ k. put_words (committed k (length bs)) build_at (zero_words 8192)) cleared_built
    where
      front_filled : take frames_at n ≡ take build_at m ++ a
      front_filled =
          ap (take frames_at) (is ∙ sym (append_assoc f a (b ++ (l ++ r))))
          ∙ take_at (f ++ a) (b ++ (l ++ r)) frames_at (omega (arith, length-append f a, front_long)) ∙ ap (λ k. k ++ a) front

      cleared_built : put_words n frames_at (zero_words 49152) ≡ built m bs
      cleared_built =
          ap₂ (λ k s. k ++ (zero_words 49152 ++ s)) front_filled (ap (λ k. drop (frames_at + k) n) (length-replicate {A = ℕ} 49152 0) ∙ area-behind)
          ∙ append_assoc (take build_at m) a (zero_words 49152 ++ drop reserve_at m)
          ∙ ap (λ s. take build_at m ++ s) (sym (append_assoc a (zero_words 49152) (drop reserve_at m)))
          ∙ ap₂ (λ s k. take build_at m ++ ((s ++ zero_words 49152) ++ drop (build_at + k) m)) filled
          (let z : 57344 ≡ length (slot_filled bs ++ zero_words 49152) = omega (arith, length-append (slot_filled bs) (zero_words 49152), ap length filled, length-replicate {A = ℕ} 49152 0) in z)

  pub area-accepted : (bs : List ℕ) (k : ℕ) → k ≡ length bs → a ≡ slot_filled bs → accepted n k ≡ changed m bs
  area-accepted bs k e filled = ap (accepted n) e ∙ area-changed bs filled

-- what was written, by what was listed
pub written-by : (bs : List ℕ) (x y : Name) (o : Option (List ℕ)) (us : List ℕ) (w : Option ℕ) (r : Result ℕ Refusal) (a : List ℕ) → Some us ≡ o → r ≡ ok_or w TooLarge → Replaced (names_replaced bs x y us) w a →
    IfSome w (λ n. n ≤ 65536) → Written (with_names bs x y o) r a
written-by bs x y o us w r a e q p short = subst (λ l. Written (with_names bs x y l) r a) e (subst (λ s. Written (Some (names_replaced bs x y us)) s a) (sym q) (go w p short))
  where
    go : (w : Option ℕ) → Replaced (names_replaced bs x y us) w a → IfSome w (λ n. n ≤ 65536) → Written (Some (names_replaced bs x y us)) (ok_or w TooLarge) a
    go None p short = (refl, p)
    go (Some k) p short = (p.0, omega (arith, p.0, short), p.1)

-- the first words of a row, and the others
pub record Chunk (n : ℕ) (s first rest : List ℕ) : Type 0 where
  pub front : length first ≡ n
  pub back : rest ≡ drop n s
  pub long : length rest + n ≡ length s

pub chunk : (o : Option (MutBor (List ℕ) × MutBor (List ℕ))) (p : MutBor (List ℕ) × MutBor (List ℕ)) (n : ℕ) (s : List ℕ) →
    MatchOption o (length s < n) (λ q. (q.0.now ≡ take n s) × (q.1.now ≡ drop n s) × (length q.1.now + n ≡ length s)) → o ≡ Some p → Chunk n s p.0.now p.1.now
chunk o p n s m e =
    let q = MatchOption-at_some (length s < n) (λ q. (q.0.now ≡ take n s) × (q.1.now ≡ drop n s) × (length q.1.now + n ≡ length s)) p e m in
    record { front = ap length q.0 ∙ length-take-le n s (omega (arith, q.2)); back = q.1; long = q.2 }

pub reserve_is : (m a b c r : List ℕ) → a ≡ drop build_at m → b ≡ drop 8192 a → c ≡ drop 40960 b → r ≡ drop 8192 c → r ≡ drop reserve_at m
reserve_is m a b c r e f g h =
    h ∙ ap (drop 8192) (g ∙ ap (drop 40960) (f ∙ ap (drop 8192) e ∙ drop-drop 8192 build_at m) ∙ drop-drop 40960 frames_at m) ∙ drop-drop 8192 list_at m

-- the program in the front of a memory is the memory's
pub front-same : (m f bs : List ℕ) → f ≡ take build_at m → bs ≡ held 0 f → bs ≡ held 0 m
front-same m f bs front e = e ∙ front-held m f (ap (take build_at) front ∙ take-take build_at build_at m (omega arith)) 0 (omega arith)

pub written-same : (m bs : List ℕ) → bs ≡ held 0 m → (s : Span) (y : Name) (k i : ℕ) (r : Result ℕ Refusal) (a : List ℕ) → Written (program_renamed bs (spelled_in bs s) y k i) r a →
    Written (program_renamed (held 0 m) (spelled_in (held 0 m) s) y k i) r a
written-same m bs e s y k i r a w = subst (λ l. Written (program_renamed l (spelled_in l s) y k i) r a) e w

-- a step by what was found
module _ {A : Type 0} (o : Option A) (s : Step) (f : A → Step) (r : Told) (n : List ℕ) where
  pub by_none : None ≡ o → Does s r n → Does (with_some o s f) r n
  by_none e t = subst (λ q. Does (with_some q s f) r n) e t

  pub by_some : (a : A) → Some a ≡ o → Does (f a) r n → Does (with_some o s f) r n
  by_some a e t = subst (λ q. Does (with_some q s f) r n) e t

-- the renaming itself, by what was listed and whether there is room
module _ (m : List ℕ) (y : Name) (b : Binder) (r : Told) (n : List ℕ) where
  pub renamed_captured : None ≡ uses_of (held 0 m) b.name y b.at b.body → n ≡ wiped m → r ≡ Err Captured → Does (renamed_step m y b) r n
  unfolding renamed_step
  renamed_captured e w k = by_none _ _ _ r n e (subst (λ l. Does (stepped l (refused 5)) r n) w (does_no n r Captured k))

  module _ (us : List ℕ) (e : Some us ≡ uses_of (held 0 m) b.name y b.at b.body) where
    abbrev new : List ℕ
    new = names_replaced (held 0 m) b.name y us

    pub renamed_large : 65536 < length new → n ≡ wiped m → r ≡ Err TooLarge → Does (renamed_step m y b) r n
    unfolding renamed_step
    renamed_large l w k =
        by_some _ _ _ r n us e
        (subst (λ t. Does (pick t (stepped (changed m new) done) (stepped (wiped m) (refused 7))) r n) (sym (lt-leb (length new) 65536 l))
        (subst (λ l. Does (stepped l (refused 7)) r n) w (does_no n r TooLarge k)))

    pub renamed-done : length new ≤ 65536 → n ≡ changed m new → r ≡ Ok None → Does (renamed_step m y b) r n
    unfolding renamed_step
    renamed-done l w k =
        by_some _ _ _ r n us e
        (subst (λ t. Does (pick t (stepped (changed m new) done) (stepped (wiped m) (refused 7))) r n) (sym (le-leb (length new) 65536 l))
        (subst (λ l. Does (stepped l done) r n) w (subst (λ q. Does (stepped n done) q n) (sym k) (does_done n))))

  -- by what was written of the new program
  module _ (a : List ℕ) where
    pub renamed-err : (w : Refusal) → Written (program_renamed (held 0 m) b.name y b.at b.body) (Err w) a → n ≡ wiped m → r ≡ Err w → Does (renamed_step m y b) r n
    renamed-err w p left told = go (uses_of (held 0 m) b.name y b.at b.body) refl p
      where
        go : (o : Option (List ℕ)) → o ≡ uses_of (held 0 m) b.name y b.at b.body → Written (with_names (held 0 m) b.name y o) (Err w) a → Does (renamed_step m y b) r n
        go None e q = renamed_captured e left (told ∙ ap (λ v. Err v) q)
        go (Some us) e q = renamed_large us e q.1 left (told ∙ ap (λ v. Err v) q.0)

    pub renamed-ok : (k : ℕ) → Written (program_renamed (held 0 m) b.name y b.at b.body) (Ok k) a → ((bs : List ℕ) → k ≡ length bs → a ≡ slot_filled bs → n ≡ changed m bs) → r ≡ Ok None →
        Does (renamed_step m y b) r n
    renamed-ok k p left told = go (uses_of (held 0 m) b.name y b.at b.body) refl p
      where
        go : (o : Option (List ℕ)) → o ≡ uses_of (held 0 m) b.name y b.at b.body → Written (with_names (held 0 m) b.name y o) (Ok k) a → Does (renamed_step m y b) r n
        go None e q = absurd q
        go (Some us) e q = renamed-done us e q.1 (left (names_replaced (held 0 m) b.name y us) q.0 q.2) told

-- both steps, in bytes that are the current program's
module _ (m bs : List ℕ) (e : bs ≡ held 0 m) (y : Name) (r : Told) (n : List ℕ) where
  pub bind_as : (x : Name) (ks : List ℕ) →
      Does
      (with_some (find_function bs x) (stepped m (refused 3))
      (λ o. with_some (body_of bs o) (stepped m (refused 3))
      (λ b. with_some (place_at bs ks b) (stepped m (refused 3)) (λ i. with_some (let_at bs i) (stepped m (refused 6)) (λ l. renamed_step m y l)))))
      r n →
      Does (rename_bind_step m x ks y) r n
  unfolding rename_bind_step
  bind_as x ks t =
      subst
      (λ bs. Does
      (with_some (find_function bs x) (stepped m (refused 3))
      (λ o. with_some (body_of bs o) (stepped m (refused 3))
      (λ b. with_some (place_at bs ks b) (stepped m (refused 3)) (λ i. with_some (let_at bs i) (stepped m (refused 6)) (λ l. renamed_step m y l)))))
      r n) e t

  pub param_as : (x : Name) (i : ℕ) →
      Does
      (with_some (find_function bs x) (stepped m (refused 3))
      (λ o. with_some (own_binder bs o i) (stepped m (refused 3)) (λ b. pick (has (others (own_names bs o) i) y) (stepped m (refused 5)) (renamed_step m y b))))
      r n →
      Does (rename_param_step m x i y) r n
  unfolding rename_param_step
  param_as x i t =
      subst
      (λ bs. Does
      (with_some (find_function bs x) (stepped m (refused 3))
      (λ o. with_some (own_binder bs o i) (stepped m (refused 3)) (λ b. pick (has (others (own_names bs o) i) y) (stepped m (refused 5)) (renamed_step m y b))))
      r n) e t

pub by_test : (t : Bool) (s u : Step) (r : Told) (n : List ℕ) (v : Bool) → v ≡ t → Does (pick v s u) r n → Does (pick t s u) r n
by_test t s u r n v e p = subst (λ b. Does (pick b s u) r n) e p
