-- The worked formula: each row is found by working it out. Assumes nothing.
use Rattle.std.proofs.Common.{refl}
use Rattle.language.specs.Basics.{same}
use Rattle.language.specs.Bytes.{in_bytes}
use Rattle.language.specs.Expr.{count_exprs, parts}
use Rattle.language.specs.Meaning.{look, fun_of, after_telling, then, looked, binds, eval_all, called, step, eval}
use Rattle.language.specs.Places.{nth_expr, at_place, put_nth, with_part, put_at}
use Rattle.language.specs.Names.{joined, free, free_all, distinct}
use Rattle.language.specs.Bare.{how_near, near_or_far, bare, bare_all, bare_spelled, bares_spelled}
use Rattle.language.specs.Spelling.{expr_spelled, exprs_spelled}
use Rattle.model.specs.State.{at_first_fun, of_some}
use Rattle.model.specs.Rename.{renamed, renamed_all, bind_renamed, put_name, nth_name, param_renamed}
use Rattle.model.specs.FunctionNames.{calls, calls_all}
use Rattle.model.specs.Extract.{given_to, given_at, vars}
use Rattle.model.specs.Model.{turn}
use Rattle.model.specs.Worked.{first, second, third, AToX, AToD, OwnToB, ThenToFar, TwiceToFar, Six, WorkedTable}

a_to_x : AToX
unfolding turn fun_of same at_first_fun of_some at_place bind_renamed renamed renamed_all put_at bare bare_all how_near near_or_far bare_spelled bares_spelled in_bytes
a_to_x = refl

a_to_d : AToD
unfolding turn fun_of same at_first_fun of_some at_place bind_renamed renamed renamed_all put_at bare bare_all how_near near_or_far bare_spelled bares_spelled in_bytes expr_spelled exprs_spelled count_exprs
a_to_d = refl

own_to_b : OwnToB
unfolding turn fun_of same at_first_fun param_renamed put_name nth_name distinct
own_to_b = refl

then_to_far : ThenToFar
unfolding turn fun_of same at_first_fun of_some at_place nth_expr parts calls calls_all joined free free_all given_at given_to vars put_at with_part put_nth in_bytes expr_spelled exprs_spelled count_exprs
then_to_far = refl

twice_to_far : TwiceToFar
unfolding turn fun_of same at_first_fun
twice_to_far = refl

six_first : Six first
unfolding eval step called fun_of same binds look looked then after_telling eval_all
six_first = refl

six_second : Six second
unfolding eval step called fun_of same binds look looked then after_telling eval_all
six_second = refl

six_third : Six third
unfolding eval step called fun_of same binds look looked then after_telling eval_all
six_third = refl

pub worked_table : WorkedTable
worked_table = (a_to_x, a_to_d, own_to_b, then_to_far, twice_to_far, six_first, six_second, six_third)
