-- A walk of the code, and what one visit of a node makes of it. Assumes nothing: these are definitions.
use Rattle.std.specs.Prelude.{◌≡◌, ℕ, suc, ◌≤◌, Bool, List, ◌∷◌, length, take, Some, None, Option, nat_lt}
use Rattle.std.specs.declared.ops.ControlFlow.{ControlFlow}
use Rattle.std.specs.declared.ops.ControlFlow.TheVariants.{Continue, Break}
use Rattle.expr.specs.Node.{holder_told}
use Rattle.expr.specs.Token.{kind_told}
use Rattle.language.specs.Basics.{pick}
use Rattle.language.specs.Bytes.{Name}
use Rattle.language.specs.Reading.{found, Token, token, head_at}
use Rattle.language.specs.Uses.{Scope, frame, Walk, walk, Holder, holder, most_frames, scope_in, head_changes, uses_from}
use Rattle.scope.specs.declared.walk.Walk as code
use Rattle.scope.specs.declared.uses.Seen as seen-code
use Rattle.scope.specs.Scopes.{scope_told}
use Rattle.scope.specs.Frames.{stacked}

-- a walk that has these frames, and lists these uses
abbrev pub walk_in : List ℕ → List ℕ → code.Walk → Walk
walk_in f us w = walk (holder_told w.holder) (scope_told w.around) (stacked f w.frames) us

-- the uses are the first words of the list
abbrev pub walk_told : List ℕ → List ℕ → code.Walk → Walk
walk_told f l w = walk_in f (take w.uses l) w

-- what is seen at a node: its head and end, its scope, and whether it is a use that changes
pub record Sight : Type 0 where
  pub token : Token
  pub scope : Scope
  pub changes : Bool

abbrev pub sight : Token → Scope → Bool → Sight
sight t s c = record { token = t; scope = s; changes = c }

abbrev pub sight_of : List ℕ → Name → Name → Option Holder → Scope → ℕ → Option Sight
sight_of bs x y h s i =
    found (head_at bs i) (λ t. found (head_changes x y (scope_in bs x y h s) t.head) (λ c. Some (sight t (scope_in bs x y h s) c)))

abbrev pub seen_told : List ℕ → Option seen-code.Seen → Option Sight
seen_told bs None = None
seen_told bs (Some s) = Some (sight (token (kind_told bs s.node.kind) s.node.end) (scope_told s.scope) s.changes)

-- the uses that are listed then; none where there is no room
abbrev pub count_told : List ℕ → Option ℕ → Option (List ℕ)
count_told l None = None
count_told l (Some n) = Some (take n l)

-- what comes of a visit: the walk goes on, or is over with so many uses; none where it is stopped
abbrev pub Visit : Type 0
Visit = Option (ControlFlow ℕ code.Walk)

-- what a visit leads to, by what the walk from there on comes to, where these uses are listed
abbrev pub led_to : (Walk → Option (List ℕ)) → List ℕ → List ℕ → Visit → Option (List ℕ)
led_to go us f (Some (Continue w)) = go (walk_in f us w)
led_to go us f (Some (Break n)) = Some us
led_to go us f None = None

-- the next expression begins there, and so many uses are listed
abbrev pub LeadsOn : ℕ → ℕ → Visit → Type 0
LeadsOn i n (Some (Continue w)) = (w.at ≡ i) × (w.uses ≡ n)
LeadsOn i n (Some (Break k)) = k ≡ n
LeadsOn i n None = Unit {0}

-- the walk goes on at i as `next` has it, with frames f and so many uses listed
pub record GoesOn (f : List ℕ) (i n : ℕ) (next : (Walk → Option (List ℕ)) → List ℕ → Option (List ℕ)) (r : Visit) : Type 0 where
  pub to : (go : Walk → Option (List ℕ)) (us : List ℕ) → next go us ≡ led_to go us f r
  pub on : LeadsOn i n r

-- a frame for the parts after the first
abbrev pub frame_opened : (Walk → Option (List ℕ)) → Walk → ℕ → ℕ → Option (List ℕ)
frame_opened go w i n =
    pick (nat_lt (length w.frames) most_frames) (go (walk w.holder w.around (frame (holder i 1) n w.around ∷ w.frames) w.uses)) None

-- what the walk comes to after a visit, if so many more heads may be read
abbrev pub visited : ℕ → List ℕ → Name → Name → List ℕ → List ℕ → Visit → Option (List ℕ)
visited n bs x y f l (Some (Continue w)) = uses_from n bs x y (walk_told f l w) w.at
visited n bs x y f l (Some (Break k)) = Some (take k l)
visited n bs x y f l None = None

abbrev pub EndsFew : Visit → Type 0
EndsFew (Some (Continue w)) = Unit {0}
EndsFew (Some (Break n)) = n ≤ 8192
EndsFew None = Unit {0}

-- one turn of the walk
pub record Visits (bs : List ℕ) (x y : Name) (f l : List ℕ) (w : code.Walk) (f₁ l₁ : List ℕ) (r : Visit) : Type 0 where
  pub turn : (k : ℕ) → uses_from (suc k) bs x y (walk_told f l w) w.at ≡ visited k bs x y f₁ l₁ r
  pub few : EndsFew r
