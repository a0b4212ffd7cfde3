-- How a step of a machine is told to the world outside. Assumes nothing: these are definitions.
use Rattle.std.specs.Prelude.{◌≡◌, ℕ, ◌<◌, Bool, true, false, ◌&&◌, List, ◌++◌, length, drop, Option, Some, None, Result, Ok, Err, ◌==◌, nat_le, codes}
use Rattle.language.specs.Basics.{pick}
use Rattle.model.specs.Engine.{Event, said, next, Act, shows, done, refused, Step, Engine}
use Rattle.machine.specs.declared.step.Kind.{Kind}
use Rattle.machine.specs.declared.step.Kind.TheVariants.{Said, GoOn}
use Rattle.machine.specs.declared.told.Refusal.{Refusal}
use Rattle.machine.specs.declared.told.Refusal.TheVariants.{Misuse, NotACommand, NotKnown, Missing, NameTaken, Captured, WrongKind, TooLarge, NothingBefore}

-- the number of each refusal
abbrev pub refusal_number : Refusal → ℕ
refusal_number Misuse = 0
refusal_number NotACommand = 1
refusal_number NotKnown = 2
refusal_number Missing = 3
refusal_number NameTaken = 4
refusal_number Captured = 5
refusal_number WrongKind = 6
refusal_number TooLarge = 7
refusal_number NothingBefore = 9

-- each refusal as it is said
abbrev pub refusal_text : Refusal → List ℕ
refusal_text Misuse = codes "lengths, kind or header are out of their limits, or there is nothing to go on with"
refusal_text NotACommand = codes "these bytes are no command"
refusal_text NotKnown = codes "this command is not known yet"
refusal_text Missing = codes "there is no such function, parameter or place"
refusal_text NameTaken = codes "the name is taken"
refusal_text Captured = codes "what the program means would change"
refusal_text WrongKind = codes "what is there is of the wrong kind, or protected"
refusal_text TooLarge = codes "the program would be too large"
refusal_text NothingBefore = codes "there is nothing to go back to"

-- what one step tells: so many bytes of the lent row are shown; or none, and the command is done; or why it is refused
abbrev pub Told : Type 0
Told = Result (Option ℕ) Refusal

-- it is refused with this number
abbrev pub RefusedWith : ℕ → Told → Type 0
RefusedWith k (Ok o) = ⊥
RefusedWith k (Err why) = refusal_number why ≡ k

-- the number of each kind, and the kind that a number is read as
abbrev pub kind_number : Kind → ℕ
kind_number Said = 0
kind_number GoOn = 1

abbrev pub KindRead : ℕ → Result Kind Refusal → Type 0
KindRead n (Ok kind) = kind_number kind ≡ n
KindRead n (Err why) = (1 < n) × (why ≡ Misuse)

-- kind 0: a command is said; 1: go on
abbrev pub event_of : ℕ → List ℕ → Event
event_of k bs = pick (k == 0) (said bs) next

-- an act as it is told, and the lent row after it
unfoldable pub ActTold : Act → Told → (out out₁ : List ℕ) → Type 0
ActTold (shows s) r out out₁ = (r ≡ Ok (Some (length s))) × (out₁ ≡ s ++ drop (length s) out)
ActTold done r out out₁ = (r ≡ Ok None) × (out₁ ≡ out)
ActTold (refused k) r out out₁ = RefusedWith k r × (out₁ ≡ out)

-- a step as it is told, and the memory after it
pub record Tells (s : Step) (r : Told) (out memory₁ out₁ : List ℕ) : Type 0 where
  pub memory : memory₁ ≡ s.memory
  pub act : ActTold s.act r out out₁

-- an act that shows nothing, as it is told
unfoldable pub DoneTold : Act → Told → Type 0
DoneTold (shows s) r = ⊥
DoneTold done r = r ≡ Ok None
DoneTold (refused k) r = RefusedWith k r

-- a step that shows nothing as it is told, and the memory after it
pub record Does (s : Step) (r : Told) (memory₁ : List ℕ) : Type 0 where
  pub memory : memory₁ ≡ s.memory
  pub act : DoneTold s.act r

-- one step: for memories of the machine's own length and a lent row of 131,072 bytes; for others it is misuse, whose number is 0, and nothing is changed
unfoldable pub StepSays : Engine → (memory : List ℕ) (kind : ℕ) (text out : List ℕ) → Bool → Told → (memory₁ out₁ : List ℕ) → Type 0
StepSays e memory kind text out true r memory₁ out₁ = Tells (e.step memory (event_of kind text)) r out memory₁ out₁
StepSays e memory kind text out false r memory₁ out₁ = (r ≡ Err Misuse) × (memory₁ ≡ memory) × (out₁ ≡ out)

abbrev pub step_fits : Engine → (memory : List ℕ) (kind : ℕ) (out : List ℕ) → Bool
step_fits e memory kind out = length memory == length e.start && (nat_le kind 1 && nat_le 131072 (length out))
