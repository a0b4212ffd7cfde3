-- The machine: one step on a memory of numbers. Total: any memory and any text give something definite. Assumes nothing: these are definitions.
use Rattle.std.specs.Prelude.{ℕ, ◌+◌, ◌-◌, List, length, Some, None, Option, ◌==◌, nat_lt, slice_set}
use Rattle.std.specs.List.{between}
use Rattle.language.specs.Basics.{pick}
use Rattle.language.specs.Bytes.{Name}
use Rattle.language.specs.Reading.{found, name_end, fun_end}
use Rattle.language.specs.Contents.{is_fine, find_function}
use Rattle.model.specs.Command.{Command, load, show, names, rename_bind, rename_param, rename_fun, extract, inline_bind, inline_call, turn_cond, drop_fun, undo}
use Rattle.model.specs.Engine.{Event, said, next, Act, shows, done, refused, Step, Engine}
use Rattle.model.specs.Reading.{Ask, loading, asking, asked}
use Rattle.memory.specs.Layout.{memory_words, zero_words, mark, older, memory_fits, held, frames_at, put_words}
use Rattle.machine.specs.History.{loaded, gone_back}

abbrev pub stepped : List ℕ → Act → Step
stepped m a = record { memory = m; act = a }

-- LOAD: names are checked by a table of two words for each function, in the frames, which are zeros then
abbrev pub table_cleared : List ℕ → List ℕ
table_cleared m = put_words m frames_at (zero_words 2048)

unfoldable pub load_step : List ℕ → List ℕ → Step
load_step m bs = pick (is_fine bs) (stepped (loaded (table_cleared m) bs) done) (stepped (table_cleared m) (refused 4))

-- SHOW: one row, the function as it is spelled. After it, nothing is left to go on with but the end: the mark lies past any program
abbrev pub function_row : List ℕ → Name → Option (List ℕ)
function_row bs x = found (find_function bs x) (λ i. found (fun_end bs i) (λ j. Some (between i j bs)))

abbrev pub row_shown : List ℕ → Option (List ℕ) → Step
row_shown m None = stepped m (refused 3)
row_shown m (Some row) = stepped (slice_set m 0 65537) (shows row)

unfoldable pub show_step : List ℕ → Name → Step
show_step m x = row_shown m (function_row (held 0 m) x)

-- NAMES: a row for each function. The mark is where the next function begins, plus 1
pub record Row : Type 0 where
  pub name : Name
  pub next : ℕ

abbrev pub row : Name → ℕ → Row
row x k = record { name = x; next = k }

abbrev pub name_row : List ℕ → ℕ → Option Row
name_row bs i = found (name_end bs i) (λ j. found (fun_end bs i) (λ k. Some (row (between (i + 8) j bs) k)))

abbrev pub name_shown : List ℕ → Option Row → Step
name_shown m None = stepped m (refused 0)
name_shown m (Some r) = stepped (slice_set m 0 (r.next + 1)) (shows r.name)

-- the name of the function that begins there, or the end of the answer
unfoldable pub names_step : List ℕ → ℕ → Step
names_step m i = pick (nat_lt i (length (held 0 m))) (name_shown m (name_row (held 0 m) i)) (stepped (slice_set m 0 0) done)

-- UNDO
unfoldable pub undo_step : List ℕ → Step
undo_step m = pick (older m == 0) (stepped m (refused 9)) (stepped (gone_back m) done)

abbrev pub command_step : List ℕ → Command → Step
command_step m (load p) = stepped m (refused 2)
command_step m (show x) = show_step m x
command_step m names = names_step m 8
command_step m (rename_bind x ks y) = stepped m (refused 2)
command_step m (rename_param x i y) = stepped m (refused 2)
command_step m (rename_fun x y) = stepped m (refused 2)
command_step m (extract x ks y) = stepped m (refused 2)
command_step m (inline_bind x ks) = stepped m (refused 2)
command_step m (inline_call x ks) = stepped m (refused 2)
command_step m (turn_cond x ks) = stepped m (refused 2)
command_step m (drop_fun x) = stepped m (refused 2)
command_step m undo = undo_step m

abbrev pub ask_step : List ℕ → Ask → Step
ask_step m (loading bs) = load_step m bs
ask_step m (asking c) = command_step m c

abbrev pub obeyed : List ℕ → Option Ask → Step
obeyed m None = stepped m (refused 1)
obeyed m (Some a) = ask_step m a

-- going on: the next row of the answer under way
unfoldable pub gone_on : List ℕ → Step
gone_on m = pick (mark m == 0) (stepped m (refused 0)) (names_step m (mark m - 1))

-- a new command ends the answer under way, whatever becomes of it
abbrev pub by_event : List ℕ → Event → Step
by_event m (said text) = obeyed (slice_set m 0 0) (asked text)
by_event m next = gone_on m

abbrev pub step_of : List ℕ → Event → Step
step_of m ev = pick (memory_fits m) (by_event m ev) (stepped m (refused 0))

unfoldable pub own : Engine
own = record { start = zero_words memory_words; step = λ m ev. step_of m ev }
