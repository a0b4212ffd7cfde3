-- Where no head stands, nothing that is still to come ends. Assumes nothing.
use Rattle.std.proofs.Common.{◌≡◌, ℕ, zero, suc, ◌<◌, List, None, refl, arith}
use Rattle.language.specs.Reading.{head_at, ends}
use Rattle.language.proofs.ReadingFacts.{ends_short, ends_none}

pub ends_nowhere : (bs : List ℕ) (i n f : ℕ) → 0 < n → head_at bs i ≡ None → ends n f bs i ≡ None
ends_nowhere bs i n zero h e = ends_short bs i n 0 h refl
ends_nowhere bs i zero (suc f) h e = absurd (omega arith)
ends_nowhere bs i (suc n) (suc f) h e = ends_none bs i (suc n) n (suc f) f refl refl e
