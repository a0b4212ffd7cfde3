-- No two commands that fit are spelled alike: a text asks for one thing, and that stands for one command. Assumes nothing.
use Rattle.std.proofs.Common.{◌≡◌, sym, refl, ap, ◌∙◌, subst}
use Rattle.language.proofs.Once.{program_once}
use Rattle.model.specs.Command.{Command, load, spelled}
use Rattle.model.specs.Whole.{Said}
use Rattle.model.specs.Reading.{Ask, loading, asking, Asks}
use Rattle.model.specs.Statements.{SpelledOnce}
use Rattle.model.proofs.AskedFacts.{said-asked}

pub asks_once : (x : Ask) (a c : Command) → Asks x a → Asks x c → a ≡ c
unfolding Asks
asks_once (loading bs) a c p q = p.3 ∙ ap load (program_once p.0 q.0 p.2 q.2 (p.1 ∙ sym q.1)) ∙ sym q.3
asks_once (asking d) a c p q = p ∙ sym q

pub spelled_once : SpelledOnce
unfolding Said
spelled_once a c h k e =
    let x = said-asked (spelled a) a (refl, h) in
    let y = said-asked (spelled a) c (sym e, k) in
    let one : x.0 ≡ y.0 = cc (x.1, y.1) in
    asks_once x.0 a c x.2 (subst (λ z. Asks z c) (sym one) y.2)
