-- The blanks at the end are those in front of the line from its back.
use Rattle.std.proofs.Common.{reverse, take, length, ◌-◌, ap, ◌∙◌, rules, tests}
use Rattle.std.proofs.lemmas.Iterator.Adapters.{YieldsList-from_rev_slice}
use Rattle.std.proofs.lemmas.Iterator.Consumers.{count_from_yields_List}
use Rattle.std.proofs.lemmas.Iterator.Search.{YieldsList-from_take_while}
use Rattle.std.proofs.lemmas.List.Folds.{length-prefix_len}
use Rattle.session.specs.Lines.{blank}
use Rattle.session.proofs.lines.without_trailing_blanks.Goals as goal

pub returns : goal.returns
returns c =
    let line = c.args.line.now in
    let trailing = count_from_yields_List c.take_while.result c.count-trailing.result c.count-trailing.ensures.ran (YieldsList-from_take_while _ blank (YieldsList-from_rev_slice line (cc)) c.take_while.ensures.closure c.take_while.ensures.done (λ x b q k. search (rules, tests))) ∙ length-prefix_len blank (reverse line) in
    ap (λ n. take (length line - n) line) trailing
