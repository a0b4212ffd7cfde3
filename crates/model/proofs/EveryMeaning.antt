-- Every command but loading and going back leaves what a program means as it was; so do those that are known. Assumes nothing.
use Rattle.std.proofs.Common.{Bool, refl}
use borrow.Author.Tests.{clash}
use Rattle.language.specs.Bytes.{Name}
use Rattle.language.proofs.MeanFacts.{mean_refl}
use Rattle.model.specs.Command.{Command, load, show, names, rename_bind, rename_param, rename_fun, extract, inline_bind, inline_call, turn_cond, drop_fun, undo}
use Rattle.model.specs.Known.{core, everything}
use Rattle.model.specs.State.{Plain}
use Rattle.model.specs.Model.{turn, keeps}
use Rattle.model.specs.Whole.{Means}
use Rattle.model.proofs.Kept.{Kept, kept-fun}
use Rattle.model.proofs.RenameMeaning.{bind_mean, param_mean}
use Rattle.model.proofs.FunctionNamesMeaning.{fun_mean, drop_mean}
use Rattle.model.proofs.ExtractMeaning.{extract_mean}
use Rattle.model.proofs.InlineMeaning.{inline_mean}
use Rattle.model.proofs.InlineCallMeaning.{call_mean}
use Rattle.model.proofs.InvertMeaning.{cond_mean}

-- looking changes nothing
show_mean : (w : Plain) (x : Name) → Kept w (turn w (show x))
unfolding turn
show_mean w x = kept-fun w x _ (λ f fs found. mean_refl w.now)

names_mean : (w : Plain) → Kept w (turn w names)
unfolding turn
names_mean w = mean_refl w.now

pub every_means : Means everything
unfolding keeps
every_means w (load p) known kept fit is_fine fit-now = absurd (clash kept)
every_means w (show f) known kept fit is_fine fit-now = show_mean w f
every_means w names known kept fit is_fine fit-now = names_mean w
every_means w (rename_bind f ks y) known kept fit is_fine fit-now = bind_mean w f ks y fit is_fine fit-now
every_means w (rename_param f i y) known kept fit is_fine fit-now = param_mean w f i y fit is_fine fit-now
every_means w (rename_fun f g) known kept fit is_fine fit-now = fun_mean w f g
every_means w (extract f ks g) known kept fit is_fine fit-now = extract_mean w f ks g
every_means w (inline_bind f ks) known kept fit is_fine fit-now = inline_mean w f ks
every_means w (inline_call f ks) known kept fit is_fine fit-now = call_mean w f ks is_fine
every_means w (turn_cond f ks) known kept fit is_fine fit-now = cond_mean w f ks
every_means w (drop_fun f) known kept fit is_fine fit-now = drop_mean w f
every_means w undo known kept fit is_fine fit-now = absurd (clash kept)

-- whichever are known
pub known_means : (known : Command → Bool) → Means known
known_means known w c is_Known = every_means w c refl

pub core_means : Means core
core_means = known_means core
