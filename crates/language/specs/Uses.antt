-- The uses of a name that a renaming changes, listed by a walk through an expression's bytes; none where a use would belong to another binder
-- then. x is the old name, y the new one. The walk keeps its way back in frames, one for each node with parts still to come. Total, as all
-- reading is. Assumes nothing: these are definitions.
use Rattle.std.specs.Prelude.{ℕ, zero, suc, ◌+◌, Bool, true, false, not, ◌&&◌, List, [], ◌∷◌, ◌++◌, length, Some, None, Option, ◌==◌, nat_lt}
use Rattle.language.specs.Basics.{pick, or, same}
use Rattle.language.specs.Bytes.{Name}
use Rattle.language.specs.Heads.{Head, h_num, h_var, h_bin, h_call, h_bind, h_choice, h_tell, arity}
use Rattle.language.specs.Reading.{found, Token, head_at}

-- which names are given anew between the renamed binder and here: the old one, the new one
pub record Scope : Type 0 where
  pub old : Bool
  pub new : Bool

abbrev pub scope : Bool → Bool → Scope
scope o n = record { old = o; new = n }

-- who holds a node: the node that begins at `at`, as its part of that number
pub record Holder : Type 0 where
  pub at : ℕ
  pub part : ℕ

abbrev pub holder : ℕ → ℕ → Holder
holder i k = record { at = i; part = k }

-- a node with parts still to come: who holds the next of them, how many parts there are in all, and the scope around the node
pub record Frame : Type 0 where
  pub holder : Holder
  pub parts : ℕ
  pub around : Scope

abbrev pub frame : Holder → ℕ → Scope → Frame
frame h n s = record { holder = h; parts = n; around = s }

-- before an expression: who holds it, none where the walk begins; the scope around its holder; the frames that are open; and where the names
-- stand that change, in order
pub record Walk : Type 0 where
  pub holder : Option Holder
  pub around : Scope
  pub frames : List Frame
  pub uses : List ℕ

abbrev pub walk : Option Holder → Scope → List Frame → List ℕ → Walk
walk h s fs us = record { holder = h; around = s; frames = fs; uses = us }

-- the walk that begins in what the binder gives its name to; the binder's own name, which stands at k, changes too
abbrev pub walk_from : ℕ → Walk
walk_from k = walk None (scope false false) [] (k ∷ [])

-- within a let that gives z
abbrev pub let_scope : Name → Name → Scope → Name → Scope
let_scope x y s z = scope (or (same x z) s.old) (or (same y z) s.new)

abbrev pub head_scope : Name → Name → Scope → Head → Scope
head_scope x y s (h_num n) = s
head_scope x y s (h_var z) = s
head_scope x y s (h_bin k) = s
head_scope x y s (h_call f k) = s
head_scope x y s (h_bind z) = let_scope x y s z
head_scope x y s h_choice = s
head_scope x y s h_tell = s

abbrev pub token_scope : Name → Name → Scope → Option Token → Scope
token_scope x y s None = s
token_scope x y s (Some t) = head_scope x y s t.head

-- the scope of an expression, by who holds it: a let gives its name in its second part only
unfoldable pub scope_in : List ℕ → Name → Name → Option Holder → Scope → Scope
scope_in bs x y None s = s
scope_in bs x y (Some h) s = pick (h.part == 1) (token_scope x y s (head_at bs h.at)) s

-- a use of z changes, or stays; none where it would belong to another binder: one that changes to a let of the new name, one that stays to the
-- renamed binder
unfoldable pub use_changes : Name → Name → Scope → Name → Option Bool
use_changes x y s z = pick (same x z && not s.old) (pick s.new None (Some true)) (pick (same y z && not s.new) None (Some false))

-- at most so many uses are listed, and so many frames open; no program has more
abbrev pub most_uses : ℕ
most_uses = 8192

abbrev pub most_frames : ℕ
most_frames = 8192

-- the name at k is listed if it changes
abbrev pub use_listed : List ℕ → ℕ → Bool → Option (List ℕ)
use_listed us k true = pick (nat_lt (length us) most_uses) (Some (us ++ k ∷ [])) None
use_listed us k false = Some us

-- whether a head is a use that changes
abbrev pub head_changes : Name → Name → Scope → Head → Option Bool
head_changes x y s (h_num n) = Some false
head_changes x y s (h_var z) = use_changes x y s z
head_changes x y s (h_bin k) = Some false
head_changes x y s (h_call f k) = Some false
head_changes x y s (h_bind z) = Some false
head_changes x y s h_choice = Some false
head_changes x y s h_tell = Some false

-- the frames left once the next part of the newest is taken: the last part takes its frame away
abbrev pub part_taken : Frame → List Frame → List Frame
part_taken f fs =
    pick (nat_lt (f.holder.part + 1) f.parts) (frame (holder f.holder.at (f.holder.part + 1)) f.parts f.around ∷ fs) fs

-- after an expression that has no parts comes the next part of the newest frame, or the end
abbrev pub after_leaf : (Walk → Option (List ℕ)) → List Frame → List ℕ → Option (List ℕ)
after_leaf go [] us = Some us
after_leaf go (f ∷ fs) us = go (walk (Some f.holder) f.around (part_taken f fs) us)

-- after a head that begins at i comes its first part; the others wait in a frame
abbrev pub after_head : (Walk → Option (List ℕ)) → ℕ → ℕ → Scope → List Frame → List ℕ → Option (List ℕ)
after_head go i zero s fs us = after_leaf go fs us
after_head go i (suc zero) s fs us = go (walk (Some (holder i 0)) s fs us)
after_head go i (suc (suc k)) s fs us =
    pick (nat_lt (length fs) most_frames) (go (walk (Some (holder i 0)) s (frame (holder i 1) (suc (suc k)) s ∷ fs) us)) None

-- what is listed at the end of the walk, from the expression at i on; the number bounds how many heads are read. A use's name stands one byte
-- after its head's first
unfoldable pub uses_from : ℕ → List ℕ → Name → Name → Walk → ℕ → Option (List ℕ)
uses_from zero bs x y w i = None
uses_from (suc n) bs x y w i =
    found (head_at bs i)
    (λ t. found (head_changes x y (scope_in bs x y w.holder w.around) t.head)
    (λ c. found (use_listed w.uses (i + 1) c)
    (λ us. after_head (λ v. uses_from n bs x y v t.end) i (arity t.head) (scope_in bs x y w.holder w.around) w.frames us)))

-- where the names stand that change if the binder whose name x stands at k is called y, and the expression at i is what it gives its name to
abbrev pub uses_of : List ℕ → Name → Name → ℕ → ℕ → Option (List ℕ)
uses_of bs x y k i = uses_from (length bs) bs x y (walk_from k) i
