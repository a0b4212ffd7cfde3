-- With zeros behind them, the bytes since the last whole word are moved up in theirs.
use Rattle.std.proofs.Common.{◌≡◌, ℕ, zero, suc, ◌-◌, ◌*◌, ◌^◌, ◌%◌, ◌≢◌, ◌<◌, List, set, refl, ap, ap₂, ◌∙◌, arith}
use Rattle.memory.specs.Build.{writing_at, finished, pushed_all}
use Rattle.memory.proofs.build.Writer.finish.Goals as goal

moved : (m : List ℕ) (n k v : ℕ) → k < 8 → k ≢ 0 → set m n ((v * 2 ^ (64 - 8 * k)) % 18446744073709551616) ≡ finished (writing_at m n k v)
unfolding pushed_all
moved m n zero v short some = absurd (some refl)
moved m n (suc zero) v short some = ap (set m n) (omega arith)
moved m n (suc (suc zero)) v short some = ap (set m n) (omega arith)
moved m n (suc (suc (suc zero))) v short some = ap (set m n) (omega arith)
moved m n (suc (suc (suc (suc zero)))) v short some = ap (set m n) (omega arith)
moved m n (suc (suc (suc (suc (suc zero))))) v short some = ap (set m n) (omega arith)
moved m n (suc (suc (suc (suc (suc (suc zero)))))) v short some = ap (set m n) (omega arith)
moved m n (suc (suc (suc (suc (suc (suc (suc zero))))))) v short some = ap (set m n) (omega arith)
moved m n (suc (suc (suc (suc (suc (suc (suc (suc k)))))))) v short some = absurd (omega arith)

pub returns-then-filled-ne0-clause-after : goal.returns-then-filled-ne0-clause-after
returns-then-filled-ne0-clause-after c =
    let self = c.args.self in
    moved self.area.now c.words.result c.filled-filled.result self.build.word (omega (arith, c.filled-filled.ensures)) c.if-filled-ne0.true
    ∙ ap₂ (λ n k. finished (writing_at self.area.now n k self.build.word)) c.words.ensures c.filled-filled.ensures
