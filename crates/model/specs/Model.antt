-- The reference model: what each command does to what stands. Assumes nothing: these are definitions.
use Rattle.std.specs.Prelude.{Bool, true, false, List, [], ◌∷◌}
use Rattle.language.specs.Basics.{pick, each}
use Rattle.language.specs.Expr.{Program}
use Rattle.language.specs.Spelling.{fun_spelled}
use Rattle.model.specs.Command.{Command, load, show, names, rename_bind, rename_param, rename_fun, extract, inline_bind, inline_call, turn_cond, drop_fun, undo}
use Rattle.model.specs.State.{Plain, Turn, no, yes_with, at_fun, at_expr, fine}
use Rattle.model.specs.Rename.{bind_renamed, nth_name, param_renamed}
use Rattle.model.specs.FunctionNames.{taken, fun_called, fun_dropped}
use Rattle.model.specs.Extract.{extracted}
use Rattle.model.specs.Inline.{bind_inlined, call_inlined}
use Rattle.model.specs.Invert.{cond_turned}

abbrev pub undone : Plain → List Program → Turn
undone w [] = no 9 w
undone w (p ∷ ps) = yes_with [] (record { now = p; before = ps })

unfoldable pub turn : Plain → Command → Turn
turn w (load p) = pick (fine p) (yes_with [] (record { now = p; before = [] })) (no 4 w)
turn w (show x) = at_fun w x (λ f. yes_with (fun_spelled f ∷ []) w)
turn w names = yes_with (each (λ f. f.name) w.now) w
turn w (rename_bind x ks y) = at_fun w x (λ f. at_expr w f ks (λ e. bind_renamed w f ks y e))
turn w (rename_param x i y) = at_fun w x (λ f. param_renamed w f i y (nth_name f.params i))
turn w (rename_fun x y) = at_fun w x (λ f. fun_called w x y f)
turn w (extract x ks y) = at_fun w x (λ f. at_expr w f ks (λ e. pick (taken w.now y) (no 4 w) (extracted w f ks y e)))
turn w (inline_bind x ks) = at_fun w x (λ f. at_expr w f ks (λ e. bind_inlined w f ks e))
turn w (inline_call x ks) = at_fun w x (λ f. at_expr w f ks (λ e. call_inlined w f ks e))
turn w (turn_cond x ks) = at_fun w x (λ f. at_expr w f ks (λ e. cond_turned w f ks e))
turn w (drop_fun x) = at_fun w x (λ f. fun_dropped w x f)
turn w undo = undone w w.before

-- which commands leave what the program means as it was: all that change a program but loading and going back
unfoldable pub keeps : Command → Bool
keeps (load p) = false
keeps (show f) = true
keeps names = true
keeps (rename_bind f ks y) = true
keeps (rename_param f i y) = true
keeps (rename_fun f g) = true
keeps (extract f ks g) = true
keeps (inline_bind f ks) = true
keeps (inline_call f ks) = true
keeps (turn_cond f ks) = true
keeps (drop_fun f) = true
keeps undo = false

-- which commands put what stood before where going back finds it
unfoldable pub changes : Command → Bool
changes (load p) = false
changes (show f) = false
changes names = false
changes (rename_bind f ks y) = true
changes (rename_param f i y) = true
changes (rename_fun f g) = true
changes (extract f ks g) = true
changes (inline_bind f ks) = true
changes (inline_call f ks) = true
changes (turn_cond f ks) = true
changes (drop_fun f) = true
changes undo = false
