-- What the steps that show rows tell, and going back, by what is found in the current program. Assumes nothing.
use Rattle.std.proofs.Common.{◌≡◌, ℕ, ◌+◌, ◌-◌, ◌<◌, ◌≤◌, ltb, List, ◌++◌, length, drop, set, Some, None, Option, Ok, Err, sym, ap, ◌∙◌, subst, le-ltb, lt-ltb, eq-eqb, ne_eqb}
use Rattle.std.specs.List.{between}
use Rattle.std.proofs.lemmas.List.Edits.{length-between}
use Rattle.expr.specs.Token.{Within}
use Rattle.language.specs.Basics.{pick}
use Rattle.language.specs.Bytes.{Name}
use Rattle.language.specs.Reading.{found, name_end, fun_end}
use Rattle.language.specs.Contents.{find_function}
use Rattle.model.specs.Engine.{shows, done, refused, Step}
use Rattle.machine.specs.declared.told.Refusal.TheVariants.{Misuse, Missing, NothingBefore}
use Rattle.memory.specs.Layout.{older, held}
use Rattle.machine.specs.History.{gone_back}
use Rattle.machine.specs.Machine.{stepped, function_row, row_shown, show_step, row, name_row, name_shown, names_step, undo_step}
use Rattle.machine.specs.Told.{Told, Tells, Does}
use Rattle.machine.proofs.StepFacts.{does_no, does_done, tells_no, tells_done, tells_row}

pub undo_none : (m : List ℕ) (r : Told) → older m ≡ 0 → r ≡ Err NothingBefore → Does (undo_step m) r m
unfolding undo_step
undo_none m r e n = subst (λ t. Does (pick t (stepped m (refused 9)) (stepped (gone_back m) done)) r m) (sym (eq-eqb (older m) 0 e)) (does_no m r NothingBefore n)

pub undo-done : (m m₁ : List ℕ) → (older m ≡ 0 → ⊥) → m₁ ≡ gone_back m → Does (undo_step m) (Ok None) m₁
unfolding undo_step
undo-done m m₁ e g =
    subst (λ t. Does (pick t (stepped m (refused 9)) (stepped (gone_back m) done)) (Ok None) m₁) (sym (ne_eqb (older m) 0 e))
    (subst (λ n. Does (stepped (gone_back m) done) (Ok None) n) (sym g) (does_done (gone_back m)))

pub told_as : (s : Step) (r r₁ : Told) (out m₁ out₁ : List ℕ) → r₁ ≡ r → Tells s r out m₁ out₁ → Tells s r₁ out m₁ out₁
told_as s r r₁ out m₁ out₁ e t = subst (λ a. Tells s a out m₁ out₁) (sym e) t

-- an end that was found lies within the row
pub within_met : (low high k : ℕ) (o : Option ℕ) → Some k ≡ o → Within low o high → (low ≤ k) × (k ≤ high)
within_met low high k o e w = let v = subst (λ p. Within low p high) (sym e) w in (v.0, v.1)

-- a row of a length that is known
row_told : (m out : List ℕ) (i j : ℕ) (bs out₁ : List ℕ) → j ≤ length bs → out₁ ≡ between i j bs ++ drop (length (between i j bs)) out →
    Tells (stepped m (shows (between i j bs))) (Ok (Some (j - i))) out m out₁
row_told m out i j bs out₁ h o =
    tells_row m out (between i j bs) (Ok (Some (j - i))) out₁ (ap (λ n. Ok (Some n)) (sym (length-between bs i j h))) o

module _ (m : List ℕ) (x : Name) (out bs : List ℕ) (e : bs ≡ held 0 m) where
  as_found : (o : Option (List ℕ)) (r : Told) (m₁ out₁ : List ℕ) → function_row bs x ≡ o → Tells (row_shown m o) r out m₁ out₁ → Tells (show_step m x) r out m₁ out₁
  unfolding show_step
  as_found o r m₁ out₁ p t = subst (λ q. Tells (row_shown m q) r out m₁ out₁) (sym p ∙ ap (λ l. function_row l x) e) t

  pub show_none : (r : Told) → None ≡ find_function bs x → r ≡ Err Missing → Tells (show_step m x) r out m out
  show_none r f n = as_found None r m out (ap (λ o. found o (λ i. found (fun_end bs i) (λ j. Some (between i j bs)))) (sym f)) (tells_no m out r Missing n)

  pub show-cut : (r : Told) (i : ℕ) → Some i ≡ find_function bs x → None ≡ fun_end bs i → r ≡ Err Missing → Tells (show_step m x) r out m out
  show-cut r i f g n =
      as_found None r m out (ap (λ o. found o (λ i. found (fun_end bs i) (λ j. Some (between i j bs)))) (sym f) ∙ ap (λ o. found o (λ j. Some (between i j bs))) (sym g)) (tells_no m out r Missing n)

  pub show-row : (i j : ℕ) (out₁ : List ℕ) → Some i ≡ find_function bs x → Some j ≡ fun_end bs i → j ≤ length bs → out₁ ≡ between i j bs ++ drop (length (between i j bs)) out →
      Tells (show_step m x) (Ok (Some (j - i))) out (set m 0 65537) out₁
  show-row i j out₁ f g h o =
      as_found (Some (between i j bs)) (Ok (Some (j - i))) (set m 0 65537) out₁
      (ap (λ o. found o (λ i. found (fun_end bs i) (λ j. Some (between i j bs)))) (sym f) ∙ ap (λ o. found o (λ j. Some (between i j bs))) (sym g))
      (row_told (set m 0 65537) out i j bs out₁ h o)

module _ (m : List ℕ) (i : ℕ) (out bs : List ℕ) (e : bs ≡ held 0 m) where
  pub names-end : length bs ≤ i → Tells (names_step m i) (Ok None) out (set m 0 0) out
  unfolding names_step
  names-end h =
      subst (λ l. Tells (pick (ltb i (length l)) (name_shown m (name_row l i)) (stepped (set m 0 0) done)) (Ok None) out (set m 0 0) out) e
      (subst (λ t. Tells (pick t (name_shown m (name_row bs i)) (stepped (set m 0 0) done)) (Ok None) out (set m 0 0) out) (sym (le-ltb i (length bs) h)) (tells_done (set m 0 0) out))

  as_named : (r : Told) (m₁ out₁ : List ℕ) → i < length bs → Tells (name_shown m (name_row bs i)) r out m₁ out₁ → Tells (names_step m i) r out m₁ out₁
  unfolding names_step
  as_named r m₁ out₁ h t =
      subst (λ l. Tells (pick (ltb i (length l)) (name_shown m (name_row l i)) (stepped (set m 0 0) done)) r out m₁ out₁) e
      (subst (λ t. Tells (pick t (name_shown m (name_row bs i)) (stepped (set m 0 0) done)) r out m₁ out₁) (sym (lt-ltb i (length bs) h)) t)

  pub names-cut : (r : Told) → i < length bs → None ≡ name_end bs i → r ≡ Err Misuse → Tells (names_step m i) r out m out
  names-cut r h f n =
      as_named r m out h (subst (λ o. Tells (name_shown m (found o (λ j. found (fun_end bs i) (λ k. Some (row (between (i + 8) j bs) k))))) r out m out) f (tells_no m out r Misuse n))

  pub names_lost : (r : Told) (j : ℕ) → i < length bs → Some j ≡ name_end bs i → None ≡ fun_end bs i → r ≡ Err Misuse → Tells (names_step m i) r out m out
  names_lost r j h f g n =
      as_named r m out h
      (subst (λ o. Tells (name_shown m (found o (λ j. found (fun_end bs i) (λ k. Some (row (between (i + 8) j bs) k))))) r out m out) f
      (subst (λ o. Tells (name_shown m (found o (λ k. Some (row (between (i + 8) j bs) k)))) r out m out) g (tells_no m out r Misuse n)))

  pub names-row : (j k : ℕ) (out₁ : List ℕ) → i < length bs → Some j ≡ name_end bs i → Some k ≡ fun_end bs i → j ≤ length bs → out₁ ≡ between (i + 8) j bs ++ drop (length (between (i + 8) j bs)) out →
      Tells (names_step m i) (Ok (Some (j - (i + 8)))) out (set m 0 (k + 1)) out₁
  names-row j k out₁ h f g l o =
      as_named (Ok (Some (j - (i + 8)))) (set m 0 (k + 1)) out₁ h
      (subst (λ o. Tells (name_shown m (found o (λ j. found (fun_end bs i) (λ k. Some (row (between (i + 8) j bs) k))))) (Ok (Some (j - (i + 8)))) out (set m 0 (k + 1)) out₁) f
      (subst (λ o. Tells (name_shown m (found o (λ k. Some (row (between (i + 8) j bs) k)))) (Ok (Some (j - (i + 8)))) out (set m 0 (k + 1)) out₁) g
      (row_told (set m 0 (k + 1)) out (i + 8) j bs out₁ l o)))
