-- Loading, showing, names and going back end as the model has them. Assumes nothing.
use Rattle.std.proofs.Common.{◌≡◌, ℕ, suc, ◌+◌, ◌-◌, ◌<◌, ◌≤◌, Bool, true, false, eqb, ltb, List, [], ◌∷◌, ◌++◌, length, get_or, set, Some, None, Option, sym, refl, ap, ◌∙◌, subst, ap₂, arith, le-ltb, lt-ltb, eq-eqb, ne_eqb}
use Rattle.std.specs.List.{between}
use Rattle.std.proofs.lemmas.List.{get_or-set_same, set-set, append_assoc, append-nil, length-append}
use Rattle.language.specs.Basics.{pick, each, every, flat}
use Rattle.language.specs.Bytes.{Name, eight, all_bytes}
use Rattle.language.specs.Expr.{Fun, Program}
use Rattle.language.specs.Meaning.{fun_of}
use Rattle.language.specs.Spelling.{fun_spelled, program_spelled}
use Rattle.language.specs.Fits.{a_fun, a_program}
use Rattle.language.specs.Reading.{found, fun_end}
use Rattle.language.specs.Contents.{listed, is_fine}
use Rattle.language.proofs.ByteFacts.{bytes_program}
use Rattle.language.proofs.StandsFacts.{Stands, length-eight}
use Rattle.language.proofs.ProgramFacts.{fun-long, program_short, program_funs}
use Rattle.language.proofs.ProgramFits.{program_fits}
use Rattle.language.proofs.ContentsLaws.{NextFun, next-fun, fine_law, find_program_none, find_program_some}
use Rattle.model.specs.Command.{load, show, names, undo, fits}
use Rattle.model.specs.State.{Plain, Turn, no, yes_with, at_first_fun, fine}
use Rattle.model.specs.Model.{undone, turn}
use Rattle.model.specs.Engine.{shows, done, refused, ran}
use Rattle.model.proofs.StayFacts.{Sound, sound_stays}
use Rattle.memory.specs.Layout.{zero_words, mark, older, memory_fits, held, frames_at}
use Rattle.machine.specs.History.{loaded, gone_back}
use Rattle.machine.specs.Machine.{stepped, table_cleared, load_step, function_row, row_shown, show_step, row, name_row, name_shown, names_step, undo_step, gone_on}
use Rattle.memory.proofs.LayoutFacts.{memory-long, held-long}
use Rattle.machine.proofs.RegionFacts.{held-set, fits_marked, back_held, back_older, back_fits, cleared_fits, zeros_room, loaded-held, loaded-older, loaded-fits}
use Rattle.machine.proofs.HoldsFacts.{Holds, holds_marked, holds_past}
use Rattle.machine.proofs.Runs.{run, run_done, run_refused, run_row, Obeys, obeys_turn}

-- GOING BACK
holds_back : (m : List ℕ) (w : Plain) (p : Program) (ps : List Program) → w.before ≡ p ∷ ps → Sound (record { now = p; before = ps }) → Holds m w → Holds (gone_back m) (record { now = p; before = ps })
holds_back m w p ps e s h =
    record {
      fits = back_fits m h.fits;
      now-held = back_held m h.fits 0 (omega arith) ∙ h.before-held 0 (omega (arith, long)) ∙ ap (λ qs. program_spelled (get_or qs 0 [])) e;
      count = back_older m h.fits ∙ omega (arith, h.count, long);
      before-held = λ k l.
          back_held m h.fits (suc k) (omega (arith, s.few-before, h.sound.few-before, long)) ∙ h.before-held (suc k) (omega (arith, long)) ∙ ap (λ qs. program_spelled (get_or qs (suc k) [])) e;
      sound = s;
    }
  where
    long : length w.before ≡ suc (length ps)
    long = ap length e

undo-at : (m : List ℕ) (t : Bool) → eqb (older m) 0 ≡ t → undo_step m ≡ pick t (stepped m (refused 9)) (stepped (gone_back m) done)
unfolding undo_step
undo-at m t e = ap (λ b. pick b (stepped m (refused 9)) (stepped (gone_back m) done)) e

pub obeys_undo : (m : List ℕ) (w : Plain) → Holds m w → Obeys w undo (undo_step m)
unfolding turn fits
obeys_undo m w h = go w.before refl
  where
    go : (ps : List Program) → w.before ≡ ps → Obeys w undo (undo_step m)
    go [] e =
        obeys_turn w undo (undo_step m) (no 9 w) 0 m (ap (undone w) e) (ap (λ s. run 0 s []) (undo-at m true (eq-eqb _ _ (h.count ∙ ap length e))) ∙ run_refused 0 m 9 []) h
    go (p ∷ ps) e =
        obeys_turn w undo (undo_step m) (yes_with [] (record { now = p; before = ps })) 0 (gone_back m) (ap (undone w) e)
        (ap (λ s. run 0 s []) (undo-at m false (ne_eqb _ _ (λ z. omega (arith, h.count, ap length e)))) ∙ run_done 0 (gone_back m) [])
        (holds_back m w p ps e (subst (λ (u : Turn). Sound u.next) (ap (undone w) e) (sound_stays w undo refl h.sound)) h)

-- LOADING
load_at : (m bs : List ℕ) (t : Bool) → is_fine bs ≡ t → load_step m bs ≡ pick t (stepped (loaded (table_cleared m) bs) done) (stepped (table_cleared m) (refused 4))
unfolding load_step
load_at m bs t e = ap (λ b. pick b (stepped (loaded (table_cleared m) bs) done) (stepped (table_cleared m) (refused 4))) e

-- a table in the frames leaves header and slots as they were
holds_cleared : (m : List ℕ) (w : Plain) → Holds m w → Holds (table_cleared m) w
holds_cleared m w h = holds_past m w frames_at (zero_words 2048) (omega arith) (zeros_room frames_at 2048 (omega arith)) h

holds-loaded : (m : List ℕ) (w : Plain) (p : Program) → a_program p ≡ true → memory_fits m ≡ true → Sound (record { now = p; before = [] }) → Holds (loaded m (program_spelled p)) (record { now = p; before = [] })
holds-loaded m w p fit f s =
    let short = program_short p fit in
    let bytes = bytes_program p fit in
    record {
      fits = loaded-fits m (program_spelled p) f short.0 short.1 bytes;
      now-held = loaded-held m (program_spelled p) f short.0 short.1 bytes;
      count = loaded-older m (program_spelled p) f short.0 short.1 bytes;
      before-held = λ k l. absurd (omega arith);
      sound = s;
    }

pub obeys_load : (m : List ℕ) (w : Plain) (p : Program) → a_program p ≡ true → Holds m w → Obeys w (load p) (load_step m (program_spelled p))
unfolding turn fits
obeys_load m w p fit h = go (fine p) refl
  where
    go : (t : Bool) → fine p ≡ t → Obeys w (load p) (load_step m (program_spelled p))
    go true e =
        obeys_turn w (load p) (load_step m (program_spelled p)) (yes_with [] (record { now = p; before = [] })) 0 (loaded (table_cleared m) (program_spelled p))
        (ap (λ b. pick b (yes_with [] (record { now = p; before = [] })) (no 4 w)) e)
        (ap (λ s. run 0 s []) (load_at m (program_spelled p) true (fine_law p fit ∙ e)) ∙ run_done 0 (loaded (table_cleared m) (program_spelled p)) [])
        (holds-loaded (table_cleared m) w p fit (cleared_fits m h.fits)
        (subst (λ (u : Turn). Sound u.next) (ap (λ b. pick b (yes_with [] (record { now = p; before = [] })) (no 4 w)) e) (sound_stays w (load p) fit h.sound)))
    go false e =
        obeys_turn w (load p) (load_step m (program_spelled p)) (no 4 w) 0 (table_cleared m) (ap (λ b. pick b (yes_with [] (record { now = p; before = [] })) (no 4 w)) e)
        (ap (λ s. run 0 s []) (load_at m (program_spelled p) false (fine_law p fit ∙ e)) ∙ run_refused 0 (table_cleared m) 4 []) (holds_cleared m w h)

-- GOING ON: from where the mark says
on_at : (n : List ℕ) (k : ℕ) → mark n ≡ k + 1 → gone_on n ≡ names_step n k
unfolding gone_on
on_at n k e =
    ap (λ b. pick b (stepped n (refused 0)) (names_step n (mark n - 1))) (ne_eqb (mark n) 0 (λ z. omega (arith, e, z)))
    ∙ ap (names_step n) (let z : mark n - 1 ≡ k = omega (arith, e) in z)

-- no function begins there
names_past : (n : List ℕ) (i : ℕ) → length (held 0 n) ≤ i → names_step n i ≡ stepped (set n 0 0) done
unfolding names_step
names_past n i h = ap (λ b. pick b (name_shown n (name_row (held 0 n) i)) (stepped (set n 0 0) done)) (le-ltb i (length (held 0 n)) h)

marked : (m : List ℕ) (v : ℕ) → memory_fits m ≡ true → mark (set m 0 v) ≡ v
marked m v f = get_or-set_same m 0 v 0 (omega (arith, memory-long m f))

-- SHOWING
show-at : (m : List ℕ) (x : Name) (o : Option (List ℕ)) → function_row (held 0 m) x ≡ o → show_step m x ≡ row_shown m o
unfolding show_step
show-at m x o e = ap (row_shown m) e

module _ (p : Program) (fit : a_program p ≡ true) (x : Name) where
  row_none : fun_of p x ≡ [] → function_row (program_spelled p) x ≡ None
  row_none e = ap (λ o. found o (λ i. found (fun_end (program_spelled p) i) (λ j. Some (between i j (program_spelled p))))) (find_program_none p fit x e)

  row_some : (f : Fun) (fs : List Fun) → fun_of p x ≡ f ∷ fs → function_row (program_spelled p) x ≡ Some (fun_spelled f)
  row_some f fs e =
      let g = find_program_some p fit x f fs e in
      ap (λ o. found o (λ i. found (fun_end (program_spelled p) i) (λ j. Some (between i j (program_spelled p))))) g.found
      ∙ ap (λ o. found o (λ j. Some (between g.place.at j (program_spelled p)))) g.ends ∙ ap Some g.bytes

-- a row with a mark past any program, and then the end
row_then_end : (m r : List ℕ) → memory_fits m ≡ true → run 1 (stepped (set m 0 65537) (shows r)) [] ≡ ran (set (set m 0 65537) 0 0) (r ∷ []) 0
row_then_end m r f =
    run_row 0 (set m 0 65537) r [] (fits_marked m 65537 (omega arith) f)
    ∙ ap (λ s. run 0 s (r ∷ [])) (on_at (set m 0 65537) 65536 (marked m 65537 f) ∙ names_past (set m 0 65537) 65536 (held-long 0 (set m 0 65537)))
    ∙ run_done 0 (set (set m 0 65537) 0 0) (r ∷ [])

pub obeys_show : (m : List ℕ) (w : Plain) (x : Name) → Holds m w → Obeys w (show x) (show_step m x)
unfolding turn at_first_fun
obeys_show m w x h = go (fun_of w.now x) refl
  where
    rows : (o : Option (List ℕ)) → function_row (program_spelled w.now) x ≡ o → show_step m x ≡ row_shown m o
    rows o e = show-at m x o (ap (λ bs. function_row bs x) h.now-held ∙ e)

    go : (fs : List Fun) → fun_of w.now x ≡ fs → Obeys w (show x) (show_step m x)
    go [] e =
        obeys_turn w (show x) (show_step m x) (no 3 w) 0 m (ap (λ fs. at_first_fun w fs (λ f. yes_with (fun_spelled f ∷ []) w)) e)
        (ap (λ s. run 0 s []) (rows None (row_none w.now h.sound.now-fits x e)) ∙ run_refused 0 m 3 []) h
    go (f ∷ fs) e =
        obeys_turn w (show x) (show_step m x) (yes_with (fun_spelled f ∷ []) w) 1 (set (set m 0 65537) 0 0) (ap (λ fs. at_first_fun w fs (λ f. yes_with (fun_spelled f ∷ []) w)) e)
        (ap (λ s. run 1 s []) (rows (Some (fun_spelled f)) (row_some w.now h.sound.now-fits x f fs e)) ∙ row_then_end m (fun_spelled f) h.fits)
        (holds_marked (set m 0 65537) w 0 (omega arith) (holds_marked m w 65537 (omega arith) h))

-- NAMES
module _ (bs : List ℕ) (bytes : all_bytes bs ≡ true) (short : length bs ≤ 65536) where
  -- the name of the next function, and where the one after it begins
  name-at : (m : List ℕ) → held 0 m ≡ bs → (i : ℕ) (f : Fun) (rest : List Fun) → i < length bs → NextFun bs i f rest →
      names_step m i ≡ stepped (set m 0 (i + length (fun_spelled f) + 1)) (shows f.name)
  unfolding names_step
  name-at m e i f rest h n =
      ap (λ l. pick (ltb i (length l)) (name_shown m (name_row l i)) (stepped (set m 0 0) done)) e
      ∙ ap (λ b. pick b (name_shown m (name_row bs i)) (stepped (set m 0 0) done)) (lt-ltb i (length bs) h)
      ∙ ap (name_shown m) (ap₂ (λ o q. found o (λ j. found q (λ k. Some (row (between (i + 8) j bs) k)))) n.name-ends n.ends)
      ∙ ap (λ x. stepped (set m 0 (i + length (fun_spelled f) + 1)) (shows x)) (sym (ap (λ o. listed o (λ j. between (i + 8) j bs)) n.name-ends) ∙ n.named)

  names_run : (fs : List Fun) (i : ℕ) (m : List ℕ) (ss : List (List ℕ)) → memory_fits m ≡ true → held 0 m ≡ bs → every a_fun fs ≡ true → Stands bs i (flat fun_spelled fs) →
      i + length (flat fun_spelled fs) ≡ length bs → run (length fs) (names_step m i) ss ≡ ran (set m 0 0) (ss ++ each (λ f. f.name) fs) 0
  names_run [] i m ss f e fit s l =
      ap (λ t. run 0 t ss) (names_past m i (omega (arith, ap length e))) ∙ run_done 0 (set m 0 0) ss ∙ ap (λ r. ran (set m 0 0) r 0) (sym (append-nil ss))
  names_run (g ∷ fs) i m ss f e fit s l =
      let n = next-fun bs bytes i g fs fit s in
      let j = i + length (fun_spelled g) in
      let low : j + 1 ≤ 65537 = omega (arith, l, length-append (fun_spelled g) (flat fun_spelled fs), short) in
      let marked_fits = fits_marked m (j + 1) low f in
      ap (λ t. run (suc (length fs)) t ss) (name-at m e i g fs (omega (arith, l, length-append (fun_spelled g) (flat fun_spelled fs), fun-long g)) n)
      ∙ run_row (length fs) (set m 0 (j + 1)) g.name ss marked_fits
      ∙ ap (λ t. run (length fs) t (ss ++ g.name ∷ [])) (on_at (set m 0 (j + 1)) j (marked m (j + 1) f))
      ∙ names_run fs j (set m 0 (j + 1)) (ss ++ g.name ∷ []) marked_fits (held-set m 0 (j + 1) 0 (omega arith) (omega arith) ∙ e) n.rest_fit n.after
      (omega (arith, l, length-append (fun_spelled g) (flat fun_spelled fs)))
      ∙ ap₂ (λ a b. ran a b 0) (set-set m 0 (j + 1) 0) (append_assoc ss (g.name ∷ []) (each (λ h. h.name) fs))

pub obeys_names : (m : List ℕ) (w : Plain) → Holds m w → Obeys w names (names_step m 8)
unfolding turn
obeys_names m w h =
    let p = w.now in
    let fit = h.sound.now-fits in
    obeys_turn w names (names_step m 8) (yes_with (each (λ f. f.name) p) w) (length p) (set m 0 0) refl
    (names_run (program_spelled p) (bytes_program p fit) (program_short p fit).1 p 8 m [] h.fits h.now-held (program_fits p fit).1 (program_funs p fit)
    (omega (arith, length-append (eight (length p)) (flat fun_spelled p), length-eight (length p))))
    (holds_marked m w 0 (omega arith) h)
