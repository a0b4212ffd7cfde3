-- The machine's memory is zeros at the start, and no step makes it longer or its numbers larger than 64 bits. Assumes nothing.
use Rattle.std.proofs.Common.{◌≡◌, ℕ, zero, suc, ◌+◌, ◌-◌, ◌≤◌, Bool, true, false, eqb, ltb, leb, List, length, set, Some, None, Option, refl, ap, ◌∙◌, subst, arith, leb-true}
use lib.ListN.{length-replicate}
use Rattle.std.specs.List.{between}
use Rattle.language.specs.Basics.{pick, every}
use Rattle.language.specs.Bytes.{Name, all_bytes}
use Rattle.language.specs.Fits.{a_name}
use Rattle.language.specs.Names.{has}
use Rattle.language.specs.Reading.{found, name_end, fun_end, place_at}
use Rattle.language.specs.Contents.{own_names, is_fine, find_function, body_of}
use Rattle.language.specs.Binders.{Binder, let_at, own_binder}
use Rattle.language.specs.Splice.{names_replaced}
use Rattle.language.specs.Uses.{uses_of}
use Rattle.language.proofs.SpliceBytes.{bytes_replaced}
use Rattle.language.proofs.ProgramFacts.{program_short}
use Rattle.language.proofs.ReadingFacts.{found_some}
use Rattle.language.proofs.ByteFacts.{bytes_program}
use Rattle.model.specs.Command.{Command, load, show, names, rename_bind, rename_param, rename_fun, extract, inline_bind, inline_call, turn_cond, drop_fun, undo}
use Rattle.model.specs.Capture.{others}
use Rattle.model.specs.Engine.{Event, said, next, refused, done, Step, Steady}
use Rattle.model.specs.Reading.{Ask, loading, asking, Asks, asked}
use Rattle.model.proofs.AskedFacts.{asked-said}
use Rattle.memory.specs.Layout.{zero_words, mark, older, memory_fits, held, wiped}
use Rattle.machine.specs.History.{loaded, gone_back, changed}
use Rattle.machine.specs.Rename.{with_some, written_step, renamed_step, rename_bind_step, rename_param_step}
use Rattle.machine.specs.Machine.{stepped, table_cleared, load_step, function_row, row_shown, show_step, Row, row, name_row, name_shown, names_step, undo_step, command_step, obeyed, gone_on, by_event, step_of, own}
use Rattle.memory.proofs.LayoutFacts.{memory-long, held_bytes}
use Rattle.machine.proofs.RegionFacts.{fits_marked}
use Rattle.machine.proofs.SizeFacts.{KeepsSize, size_refl, size_then, size_set, size_cleared, size_back, size_loaded, size_wiped, size_changed, fun_within}

pub record SpellsProgram (bs : List ℕ) : Type 0 where
  pub low : 8 ≤ length bs
  pub high : length bs ≤ 65536
  pub bytes : all_bytes bs ≡ true

-- what a text asks to load
pub asked_bytes : (text bs : List ℕ) → asked text ≡ Some (loading bs) → SpellsProgram bs
unfolding Asks
asked_bytes text bs e =
    let p = (asked-said text (loading bs) e).2 in
    let s = program_short p.0 p.2 in
    subst SpellsProgram p.1 (record { low = s.0; high = s.1; bytes = bytes_program p.0 p.2 })

load_size : (m bs : List ℕ) → memory_fits m ≡ true → SpellsProgram bs → KeepsSize m (load_step m bs).memory
unfolding load_step
load_size m bs f s = go (is_fine bs)
  where
    go : (t : Bool) → KeepsSize m (pick t (stepped (loaded (table_cleared m) bs) done) (stepped (table_cleared m) (refused 4))).memory
    go true =
        size_then m (table_cleared m) (loaded (table_cleared m) bs) (size_cleared m f)
        (size_loaded (table_cleared m) bs ((size_cleared m f).long ∙ memory-long m f) s.high s.bytes)
    go false = size_cleared m f

show_size : (m : List ℕ) (x : Name) → KeepsSize m (show_step m x).memory
unfolding show_step
show_size m x = go (function_row (held 0 m) x)
  where
    go : (o : Option (List ℕ)) → KeepsSize m (row_shown m o).memory
    go None = size_refl m
    go (Some r) = size_set m 0 65537 (omega arith)

names_size : (m : List ℕ) (i : ℕ) → KeepsSize m (names_step m i).memory
unfolding names_step
names_size m i = go (ltb i (length (held 0 m)))
  where
    rows : (o : Option Row) → name_row (held 0 m) i ≡ o → KeepsSize m (name_shown m o).memory
    rows None e = size_refl m
    rows (Some r) e =
        let got = found_some (name_end (held 0 m) i) (λ j. found (fun_end (held 0 m) i) (λ k. Some (row (between (i + 8) j (held 0 m)) k))) r e in
        let got2 = found_some (fun_end (held 0 m) i) (λ k. Some (row (between (i + 8) got.0 (held 0 m)) k)) r got.2 in
        let is : row (between (i + 8) got.0 (held 0 m)) got2.0 ≡ r = cc got2.2 in
        size_set m 0 (r.next + 1) (omega (arith, fun_within m i got2.0 got2.1, ap (λ (q : Row). q.next) is))

    go : (t : Bool) → KeepsSize m (pick t (name_shown m (name_row (held 0 m) i)) (stepped (set m 0 0) done)).memory
    go true = rows (name_row (held 0 m) i) refl
    go false = size_set m 0 0 (omega arith)

undo_size : (m : List ℕ) → memory_fits m ≡ true → KeepsSize m (undo_step m).memory
unfolding undo_step
undo_size m f = go (eqb (older m) 0)
  where
    go : (t : Bool) → KeepsSize m (pick t (stepped m (refused 9)) (stepped (gone_back m) done)).memory
    go true = size_refl m
    go false = size_back m f

-- renaming: a program that is written is as small as it is tested to be, and its bytes are bytes
some_size : {A : Type 0} (m : List ℕ) (o : Option A) (s : Step) (g : A → Step) → KeepsSize m s.memory → ((a : A) → KeepsSize m (g a).memory) → KeepsSize m (with_some o s g).memory
some_size m None s g h k = h
some_size m (Some a) s g h k = k a

written_size : (m bs : List ℕ) → memory_fits m ≡ true → all_bytes bs ≡ true → KeepsSize m (written_step m bs).memory
written_size m bs f bytes = go (leb (length bs) 65536) refl
  where
    go : (t : Bool) → leb (length bs) 65536 ≡ t → KeepsSize m (pick t (stepped (changed m bs) done) (stepped (wiped m) (refused 7))).memory
    go true e = size_changed m bs f (leb-true (length bs) 65536 e) bytes
    go false e = size_wiped m f

renamed_size : (m : List ℕ) (y : Name) (b : Binder) → memory_fits m ≡ true → a_name y ≡ true → KeepsSize m (renamed_step m y b).memory
unfolding renamed_step
renamed_size m y b f named =
    some_size m (uses_of (held 0 m) b.name y b.at b.body) (stepped (wiped m) (refused 5))
    (λ us. written_step m (names_replaced (held 0 m) b.name y us)) (size_wiped m f)
    (λ us. written_size m (names_replaced (held 0 m) b.name y us) f (bytes_replaced (held 0 m) b.name y us (held_bytes 0 m) named))

pub bind_size : (m : List ℕ) (x : Name) (ks : List ℕ) (y : Name) → memory_fits m ≡ true → a_name y ≡ true → KeepsSize m (rename_bind_step m x ks y).memory
unfolding rename_bind_step
bind_size m x ks y f named =
    some_size m (find_function (held 0 m) x) _ _ (size_refl m)
    (λ o. some_size m (body_of (held 0 m) o) _ _ (size_refl m)
    (λ b. some_size m (place_at (held 0 m) ks b) _ _ (size_refl m)
    (λ i. some_size m (let_at (held 0 m) i) _ _ (size_refl m) (λ l. renamed_size m y l f named))))

pub param_size : (m : List ℕ) (x : Name) (i : ℕ) (y : Name) → memory_fits m ≡ true → a_name y ≡ true → KeepsSize m (rename_param_step m x i y).memory
unfolding rename_param_step
param_size m x i y f named =
    some_size m (find_function (held 0 m) x) _ _ (size_refl m)
    (λ o. some_size m (own_binder (held 0 m) o i) _ _ (size_refl m)
    (λ b. apart b (has (others (own_names (held 0 m) o) i) y)))
  where
    apart : (b : Binder) (t : Bool) → KeepsSize m (pick t (stepped m (refused 5)) (renamed_step m y b)).memory
    apart b true = size_refl m
    apart b false = renamed_size m y b f named

command_size : (m : List ℕ) → memory_fits m ≡ true → (c : Command) → KeepsSize m (command_step m c).memory
command_size m f (load p) = size_refl m
command_size m f (show x) = show_size m x
command_size m f names = names_size m 8
command_size m f (rename_bind x ks y) = size_refl m
command_size m f (rename_param x i y) = size_refl m
command_size m f (rename_fun x y) = size_refl m
command_size m f (extract x ks y) = size_refl m
command_size m f (inline_bind x ks) = size_refl m
command_size m f (inline_call x ks) = size_refl m
command_size m f (turn_cond x ks) = size_refl m
command_size m f (drop_fun x) = size_refl m
command_size m f undo = undo_size m f

obeyed_size : (m text : List ℕ) → memory_fits m ≡ true → (a : Option Ask) → asked text ≡ a → KeepsSize m (obeyed m a).memory
obeyed_size m text f None e = size_refl m
obeyed_size m text f (Some (loading bs)) e = load_size m bs f (asked_bytes text bs e)
obeyed_size m text f (Some (asking c)) e = command_size m f c

on_size : (m : List ℕ) → KeepsSize m (gone_on m).memory
unfolding gone_on
on_size m = go (eqb (mark m) 0)
  where
    go : (t : Bool) → KeepsSize m (pick t (stepped m (refused 0)) (names_step m (mark m - 1))).memory
    go true = size_refl m
    go false = names_size m (mark m - 1)

event_size : (m : List ℕ) → memory_fits m ≡ true → (ev : Event) → KeepsSize m (by_event m ev).memory
event_size m f (said text) =
    size_then m (set m 0 0) (obeyed (set m 0 0) (asked text)).memory (size_set m 0 0 (omega arith)) (obeyed_size (set m 0 0) text (fits_marked m 0 (omega arith) f) (asked text) refl)
event_size m f next = on_size m

step_size : (m : List ℕ) (ev : Event) → KeepsSize m (step_of m ev).memory
step_size m ev = go (memory_fits m) refl
  where
    go : (t : Bool) → memory_fits m ≡ t → KeepsSize m (pick t (by_event m ev) (stepped m (refused 0))).memory
    go true f = event_size m f ev
    go false f = size_refl m

zeros : (n : ℕ) → every (λ m. eqb m 0) (zero_words n) ≡ true
zeros zero = refl
zeros (suc n) = zeros n

pub steady : Steady own
unfolding Steady own
steady = (omega (arith, length-replicate {A = ℕ} 262144 0), zeros 262144, λ m ev. ((step_size m ev).long, (step_size m ev).small))
