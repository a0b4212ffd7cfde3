use Rattle.std.proofs.Common.{true, false, not, ◌&&◌, Some, None, ◌∙◌, ap₂}
use Rattle.language.specs.Basics.{pick}
use Rattle.language.specs.Uses.{use_changes}
use Rattle.scope.proofs.renaming.Renaming.use_of.Goals as goal

pub returns : goal.returns
unfolding use_changes
returns g c =
    c.use_by.ensures
    ∙ ap₂ (λ o n. pick (o && not c.args.scope.old) (pick c.args.scope.new None (Some true)) (pick (n && not c.args.scope.new) None (Some false)))
    c.is_old-old.ensures c.is_new-new.ensures
