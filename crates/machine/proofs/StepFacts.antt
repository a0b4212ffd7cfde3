-- What a step tells: misuse changes nothing; otherwise it is the machine's own step. Assumes nothing.
use Rattle.std.proofs.Common.{◌≡◌, ℕ, ◌-◌, ◌<◌, ◌≤◌, Bool, true, false, eqb, leb, List, ◌++◌, length, take, drop, set, Some, None, Option, Ok, Err, Result, sym, refl, ap, ◌∙◌, subst, arith, eq-eqb, ne_eqb, le-leb}
use lib.ListN.{length-replicate}
use borrow.Author.Tests.{lt-leb}
use Rattle.std.proofs.lemmas.List.{append_assoc, drop-append-le, take-append-drop, length-take-le}
use Rattle.std.proofs.lemmas.Bool.{and_parts, and_from, and_left, and_right}
use Rattle.std.specs.Result.{result_ok}
use Rattle.language.specs.Basics.{pick}
use Rattle.wire.specs.declared.request.Request.{Request}
use Rattle.wire.specs.Request.{request_asks}
use Rattle.model.specs.Reading.{Ask, asked}
use Rattle.model.specs.Engine.{said, next, Act, shows, done, refused, Step}
use Rattle.machine.specs.declared.told.Refusal.{Refusal}
use Rattle.machine.specs.declared.told.Refusal.TheVariants.{Misuse}
use Rattle.memory.specs.Layout.{memory_words, mark, memory_fits}
use Rattle.machine.specs.Machine.{stepped, ask_step, names_step, gone_on, obeyed, by_event, own}
use Rattle.machine.specs.Told.{refusal_number, Told, RefusedWith, event_of, ActTold, Tells, DoneTold, Does, StepSays, step_fits}

pub does_no : (m : List ℕ) (r : Told) (why : Refusal) → r ≡ Err why → Does (stepped m (refused (refusal_number why))) r m
unfolding DoneTold
does_no m r why e = record { memory = refl; act = subst (RefusedWith (refusal_number why)) (sym e) refl }

pub does_done : (m : List ℕ) → Does (stepped m done) (Ok None) m
unfolding DoneTold
does_done m = record { memory = refl; act = refl }

-- what shows nothing leaves the lent row as it is
pub told_done : (s : Step) (r : Told) (m₁ out : List ℕ) → Does s r m₁ → Tells s r out m₁ out
unfolding DoneTold ActTold
told_done s r m₁ out d = record { memory = d.memory; act = go s.act d.act }
  where
    go : (a : Act) → DoneTold a r → ActTold a r out out
    go (shows bs) t = absurd t
    go done t = (t, refl)
    go (refused k) t = (t, refl)

pub tells_no : (m out : List ℕ) (r : Told) (why : Refusal) → r ≡ Err why → Tells (stepped m (refused (refusal_number why))) r out m out
tells_no m out r why e = told_done _ _ _ _ (does_no m r why e)

pub tells_done : (m out : List ℕ) → Tells (stepped m done) (Ok None) out m out
tells_done m out = told_done _ _ _ _ (does_done m)

pub tells_row : (m out s : List ℕ) (r : Told) (out₁ : List ℕ) → r ≡ Ok (Some (length s)) → out₁ ≡ s ++ drop (length s) out → Tells (stepped m (shows s)) r out m out₁
unfolding ActTold
tells_row m out s r out₁ e o = record { memory = refl; act = (e, o) }

-- a row that is shown has at most 65,536 bytes
abbrev pub Short : Act → Type 0
Short (shows s) = length s ≤ 65536
Short done = Unit {0}
Short (refused k) = Unit {0}

-- the row is the front of what is lent; what lies behind it stays
module _ (out row : List ℕ) (long : 131072 ≤ length out) (front : row ≡ take 131072 out) where
  pub kept_whole : row ++ drop 131072 out ≡ out
  kept_whole = ap (λ b. b ++ drop 131072 out) front ∙ take-append-drop 131072 out

  row_long : length row ≡ 131072
  row_long = ap length front ∙ length-take-le 131072 out long

  act_front : (a : Act) (r : Told) (row₁ : List ℕ) → Short a → ActTold a r row row₁ → ActTold a r out (row₁ ++ drop 131072 out)
  unfolding ActTold
  act_front (shows s) r row₁ short t = (
    t.0,
    ap (λ b. b ++ drop 131072 out) t.1 ∙ append_assoc s (drop (length s) row) (drop 131072 out)
        ∙ ap (λ b. s ++ b) (sym (drop-append-le (length s) row (drop 131072 out) (omega (arith, row_long))) ∙ ap (drop (length s)) kept_whole),
  )
  act_front done r row₁ short t = (t.0, ap (λ b. b ++ drop 131072 out) t.1 ∙ kept_whole)
  act_front (refused k) r row₁ short t = (t.0, ap (λ b. b ++ drop 131072 out) t.1 ∙ kept_whole)

  pub front_told : (s : Step) (r : Told) (m₁ row₁ : List ℕ) → Short s.act → Tells s r row m₁ row₁ → Tells s r out m₁ (row₁ ++ drop 131072 out)
  front_told s r m₁ row₁ short t = record { memory = t.memory; act = act_front s.act r row₁ short t.act }

-- what was lent as arrays is as it was
pub lent_back : (m l : List ℕ) (kind : ℕ) (text out row : List ℕ) (t : Bool) (r : Told) → l ≡ m → row ++ drop 131072 out ≡ out → StepSays own m kind text out t r m out →
    StepSays own m kind text out t r l (row ++ drop 131072 out)
lent_back m l kind text out row t r e f s = subst (λ n. StepSays own m kind text out t r n (row ++ drop 131072 out)) (sym e) (subst (λ o. StepSays own m kind text out t r m o) (sym f) s)

-- what was looked for, by what `ok_or` made of it
pub met : {A E : Type 0} (o : Option A) (r : Result A E) (a : A) → o ≡ result_ok r → r ≡ Ok a → Some a ≡ o
met o r a e was = sym (e ∙ ap result_ok was)

pub missed : {A E : Type 0} (o : Option A) (r : Result A E) (why : E) → o ≡ result_ok r → r ≡ Err why → None ≡ o
missed o r why e was = sym (e ∙ ap result_ok was)

own-long : length own.start ≡ memory_words
unfolding own
own-long = length-replicate {A = ℕ} 262144 0

module _ (m : List ℕ) (kind : ℕ) (text out : List ℕ) (r : Told) (no : r ≡ Err Misuse) where
  unfit : step_fits own m kind out ≡ false → StepSays own m kind text out (step_fits own m kind out) r m out
  unfolding StepSays
  unfit e = subst (λ t. StepSays own m kind text out t r m out) (sym e) (no, refl, refl)

  pub kind_unfit : 1 < kind → StepSays own m kind text out (step_fits own m kind out) r m out
  kind_unfit h = unfit (and_right (eqb (length m) (length own.start)) _ (and_left (leb kind 1) (leb 131072 (length out)) (lt-leb kind 1 h)))

  pub row_unfit : length out < 131072 → StepSays own m kind text out (step_fits own m kind out) r m out
  row_unfit h = unfit (and_right (eqb (length m) (length own.start)) _ (and_right (leb kind 1) (leb 131072 (length out)) (lt-leb 131072 (length out) h)))

  pub memory_short : (length m ≡ memory_words → ⊥) → StepSays own m kind text out (step_fits own m kind out) r m out
  memory_short h = unfit (and_left (eqb (length m) (length own.start)) _ (ap (eqb (length m)) own-long ∙ ne_eqb (length m) memory_words h))

  pub memory_unfit : memory_fits m ≡ false → StepSays own m kind text out (step_fits own m kind out) r m out
  unfolding StepSays own
  memory_unfit h = go (step_fits own m kind out)
    where
      go : (t : Bool) → StepSays own m kind text out t r m out
      go true = subst (λ t. Tells (pick t (by_event m (event_of kind text)) (stepped m (refused 0))) r out m out) (sym h) (tells_no m out r Misuse no)
      go false = (no, refl, refl)

-- where all fits, a step is what the event does
module _ (m : List ℕ) (kind : ℕ) (text out : List ℕ) (r : Told) (m₁ out₁ : List ℕ) (o : 131072 ≤ length out) (h : memory_fits m ≡ true) where
  all-fits : kind ≤ 1 → step_fits own m kind out ≡ true
  all-fits k =
      and_from _ _ (ap (eqb (length m)) own-long ∙ (and_parts (eqb (length m) memory_words) _ h).0) (and_from _ _ (le-leb kind 1 k) (le-leb 131072 (length out) o))

  step-told : kind ≤ 1 → Tells (by_event m (event_of kind text)) r out m₁ out₁ → StepSays own m kind text out (step_fits own m kind out) r m₁ out₁
  unfolding StepSays own
  step-told k s =
      subst (λ t. StepSays own m kind text out t r m₁ out₁) (sym (all-fits k))
      (subst (λ t. Tells (pick t (by_event m (event_of kind text)) (stepped m (refused 0))) r out m₁ out₁) (sym h) s)

  pub said-told : kind ≡ 0 → Tells (by_event m (said text)) r out m₁ out₁ → StepSays own m kind text out (step_fits own m kind out) r m₁ out₁
  said-told k s = step-told (omega arith) (subst (λ n. Tells (by_event m (event_of n text)) r out m₁ out₁) (sym k) s)

  pub next-told : kind ≡ 1 → Tells (by_event m next) r out m₁ out₁ → StepSays own m kind text out (step_fits own m kind out) r m₁ out₁
  next-told k s = step-told (omega arith) (subst (λ n. Tells (by_event m (event_of n text)) r out m₁ out₁) (sym k) s)

-- what a text asks for, by what was read, once the answer under way has ended
pub obeyed_as : (m ended text : List ℕ) (a : Option Ask) (r : Told) (out m₁ out₁ : List ℕ) → ended ≡ set m 0 0 → a ≡ asked text → Tells (obeyed ended a) r out m₁ out₁ →
    Tells (by_event m (said text)) r out m₁ out₁
obeyed_as m ended text a r out m₁ out₁ u e s = subst (λ b. Tells (obeyed b (asked text)) r out m₁ out₁) u (subst (λ b. Tells (obeyed ended b) r out m₁ out₁) e s)

pub answered_as : (m : List ℕ) (q p : Request) (r : Told) (out m₁ out₁ : List ℕ) → q ≡ p → Tells (ask_step m (request_asks p)) r out m₁ out₁ → Tells (ask_step m (request_asks q)) r out m₁ out₁
answered_as m q p r out m₁ out₁ e s = subst (λ t. Tells (ask_step m (request_asks t)) r out m₁ out₁) (sym e) s

-- going on
pub on_none : (m out : List ℕ) (r : Told) → mark m ≡ 0 → r ≡ Err Misuse → Tells (gone_on m) r out m out
unfolding gone_on
on_none m out r e n = subst (λ t. Tells (pick t (stepped m (refused 0)) (names_step m (mark m - 1))) r out m out) (sym (eq-eqb (mark m) 0 e)) (tells_no m out r Misuse n)

pub on_next : (m out : List ℕ) (r : Told) (m₁ out₁ : List ℕ) → (mark m ≡ 0 → ⊥) → Tells (names_step m (mark m - 1)) r out m₁ out₁ → Tells (gone_on m) r out m₁ out₁
unfolding gone_on
on_next m out r m₁ out₁ e s = subst (λ t. Tells (pick t (stepped m (refused 0)) (names_step m (mark m - 1))) r out m₁ out₁) (sym (ne_eqb (mark m) 0 e)) s
