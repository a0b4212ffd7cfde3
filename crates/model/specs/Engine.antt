-- Machines that are told a command and do one act a step. Assumes nothing: these are definitions.
use Rattle.std.specs.Prelude.{◌≡◌, ℕ, zero, suc, ◌≤◌, Bool, true, ◌&&◌, ltb, List, [], ◌∷◌, ◌++◌, length, nat_eq, nat_le, nat_lt}
use Rattle.language.specs.Basics.{pick, every}

pub data Event : Type 0 where
  said : List ℕ → Event
  next : Event

pub data Act : Type 0 where
  shows : List ℕ → Act
  done : Act
  refused : ℕ → Act

pub record Step : Type 0 where
  pub memory : List ℕ
  pub act : Act

pub record Engine : Type 0 where
  pub start : List ℕ
  pub step : List ℕ → Event → Step

-- how a command went: its end is 0 done, a refusal, or 1000 still at it
pub record Ran : Type 0 where
  pub memory : List ℕ
  pub showed : List (List ℕ)
  pub end : ℕ

abbrev pub ran : List ℕ → List (List ℕ) → ℕ → Ran
ran m ss k = record { memory = m; showed = ss; end = k }

-- a refusal has a number below 1,000, and not 0: anything else is a fault
abbrev pub refusal_end : ℕ → ℕ
refusal_end k = pick (nat_le 1 k && nat_lt k 1000) k 1001

unfoldable pub one_act : (List ℕ → List (List ℕ) → Ran) → List (List ℕ) → List ℕ → Act → Ran
one_act go ss m (shows s) = go m (ss ++ s ∷ [])
one_act go ss m done = ran m ss 0
one_act go ss m (refused k) = ran m ss (refusal_end k)

unfoldable pub runs : ℕ → Engine → List ℕ → Event → List (List ℕ) → Ran
runs zero e m ev ss = ran m ss 1000
runs (suc n) e m ev ss = one_act (λ m₁ ss₁. runs n e m₁ next ss₁) ss (e.step m ev).memory (e.step m ev).act

unfoldable pub all_small : List ℕ → Bool
all_small ms = every (λ m. ltb m 18446744073709551616) ms

-- memory is all 0 at the start; it never grows, nor do its numbers beyond 64 bits
unfoldable pub Steady : Engine → Type 0
Steady e =
    (length e.start ≤ 262144) × (every (λ m. nat_eq m 0) e.start ≡ true)
    × ((m : List ℕ) (ev : Event) → (length (e.step m ev).memory ≡ length m) × (all_small m ≡ true → all_small (e.step m ev).memory ≡ true))
