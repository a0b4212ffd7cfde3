-- The steps that rename what is bound: in the current program's bytes, what gives the name is found, the uses that change are listed, and the
-- program with the new name at each is written. Total. Assumes nothing: these are definitions.
use Rattle.std.specs.Prelude.{ℕ, List, length, Some, None, Option, nat_le}
use Rattle.language.specs.Basics.{pick}
use Rattle.language.specs.Bytes.{Name}
use Rattle.language.specs.Names.{has}
use Rattle.language.specs.Reading.{place_at}
use Rattle.language.specs.Contents.{own_names, find_function, body_of}
use Rattle.language.specs.Binders.{Binder, let_at, own_binder}
use Rattle.language.specs.Splice.{names_replaced}
use Rattle.language.specs.Uses.{uses_of}
use Rattle.model.specs.Capture.{others}
use Rattle.model.specs.Engine.{done, refused, Step}
use Rattle.memory.specs.Layout.{held, wiped}
use Rattle.machine.specs.History.{changed}
use Rattle.machine.specs.Machine.{stepped}

-- go on with what was found, or do this
abbrev pub with_some : {A : Type 0} → Option A → Step → (A → Step) → Step
with_some None s f = s
with_some (Some a) s f = f a

-- a program that was written is the current one, unless it is too large
abbrev pub written_step : List ℕ → List ℕ → Step
written_step m bs = pick (nat_le (length bs) 65536) (stepped (changed m bs) done) (stepped (wiped m) (refused 7))

-- what the binder gives is called y
unfoldable pub renamed_step : List ℕ → Name → Binder → Step
renamed_step m y b =
    with_some (uses_of (held 0 m) b.name y b.at b.body) (stepped (wiped m) (refused 5))
    (λ us. written_step m (names_replaced (held 0 m) b.name y us))

-- RENAME BIND: 3, nothing is there; 6, it is no let
unfoldable pub rename_bind_step : List ℕ → Name → List ℕ → Name → Step
rename_bind_step m x ks y =
    with_some (find_function (held 0 m) x) (stepped m (refused 3))
    (λ o. with_some (body_of (held 0 m) o) (stepped m (refused 3))
    (λ b. with_some (place_at (held 0 m) ks b) (stepped m (refused 3))
    (λ i. with_some (let_at (held 0 m) i) (stepped m (refused 6)) (λ l. renamed_step m y l))))

-- RENAME PARAM: 3, there is no such function or own name; 5, another own name is y
unfoldable pub rename_param_step : List ℕ → Name → ℕ → Name → Step
rename_param_step m x i y =
    with_some (find_function (held 0 m) x) (stepped m (refused 3))
    (λ o. with_some (own_binder (held 0 m) o i) (stepped m (refused 3))
    (λ b. pick (has (others (own_names (held 0 m) o) i) y) (stepped m (refused 5)) (renamed_step m y b)))
