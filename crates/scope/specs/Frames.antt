-- Frames of a walk, five words for each. Assumes nothing: these are definitions.
use Rattle.std.specs.Prelude.{ℕ, zero, suc, ◌+◌, ◌*◌, Bool, not, List, [], ◌∷◌, set, Some, None, Option, ◌==◌, nat_lt, slice_index, slice_set}
use Rattle.language.specs.Basics.{pick}
use Rattle.language.specs.Uses.{Frame, frame, holder, scope}
use Rattle.scope.specs.declared.frames.Frame as code
use Rattle.scope.specs.Scopes.{scope_told}

abbrev pub frame_told : code.Frame → Frame
frame_told f = frame (holder f.holder.at f.holder.part) f.parts (scope_told f.around)

-- where the tth frame begins
abbrev pub frame_from : ℕ → ℕ
frame_from t = t * 5

abbrev pub flag : Bool → ℕ
flag b = pick b 1 0

abbrev pub flagged : ℕ → Bool
flagged n = not (n == 0)

unfoldable pub frame_at : List ℕ → ℕ → Frame
frame_at m t =
    frame (holder (slice_index m (frame_from t)) (slice_index m (frame_from t + 1))) (slice_index m (frame_from t + 2))
    (scope (flagged (slice_index m (frame_from t + 3))) (flagged (slice_index m (frame_from t + 4))))

unfoldable pub frame_put : List ℕ → ℕ → Frame → List ℕ
frame_put m t f =
    set (set (slice_set (slice_set (slice_set m (frame_from t) f.holder.at) (frame_from t + 1) f.holder.part) (frame_from t + 2) f.parts)
    (frame_from t + 3) (flag f.around.old)) (frame_from t + 4) (flag f.around.new)

-- the newest first
unfoldable pub stacked : List ℕ → ℕ → List Frame
stacked m zero = []
stacked m (suc t) = frame_at m t ∷ stacked m t

-- the frame with its next part taken; none where that was the last
abbrev pub next_frame : Frame → Option Frame
next_frame f = pick (nat_lt (f.holder.part + 1) f.parts) (Some (frame (holder f.holder.at (f.holder.part + 1)) f.parts f.around)) None

abbrev pub next_told : Option code.Frame → Option Frame
next_told None = None
next_told (Some f) = Some (frame_told f)
