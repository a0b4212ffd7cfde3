-- Which commands are known. Assumes nothing: these are definitions.
use Rattle.std.specs.Prelude.{Bool, true, false}
use Rattle.model.specs.Command.{Command, load, show, names, rename_bind, rename_param, rename_fun, extract, inline_bind, inline_call, turn_cond, drop_fun, undo}

-- no command at all
abbrev pub nothing : Command → Bool
nothing c = false

-- programs are loaded, shown and gone back to
unfoldable pub basics : Command → Bool
basics (load p) = true
basics (show f) = true
basics names = true
basics (rename_bind f ks y) = false
basics (rename_param f i y) = false
basics (rename_fun f g) = false
basics (extract f ks g) = false
basics (inline_bind f ks) = false
basics (inline_call f ks) = false
basics (turn_cond f ks) = false
basics (drop_fun f) = false
basics undo = true

-- and what is bound can be renamed, and gone back from
unfoldable pub core : Command → Bool
core (load p) = true
core (show f) = true
core names = true
core (rename_bind f ks y) = true
core (rename_param f i y) = true
core (rename_fun f g) = false
core (extract f ks g) = false
core (inline_bind f ks) = false
core (inline_call f ks) = false
core (turn_cond f ks) = false
core (drop_fun f) = false
core undo = true

abbrev pub everything : Command → Bool
everything c = true
