-- Written and accepted; or nothing is left of it.
use Rattle.std.proofs.Common.{◌-◌, refl, ◌∙◌, arith}
use Rattle.memory.specs.Layout.{held}
use Rattle.scope.specs.Binding.{binder_of}
use Rattle.machine.proofs.RenameSteps.{chunk, reserve_is, front-same, written-same, area-accepted, area-wiped, renamed-err, renamed-ok}
use Rattle.machine.proofs.rename.rename.Goals as goal

pub unwrap-requires-3 : goal.unwrap-requires-3
unwrap-requires-3 c =
    let one = chunk _ _ 8192 _ c.split_first_chunk_mut.ensures.cases c.unwrap.ensures in
    let two = chunk _ _ 40960 _ c.split_first_chunk_mut-2.ensures.cases c.unwrap-2.ensures in
    c.split_first_chunk_mut-3.ensures.variant.1 (omega (arith, one.long, two.long, c.split_at_mut-front.ensures.back_len))

pub returns-in-Ok : goal.returns-in-Ok
returns-in-Ok c =
    let m = c.args.memory.now in
    let one = chunk _ _ 8192 _ c.split_first_chunk_mut.ensures.cases c.unwrap.ensures in
    let two = chunk _ _ 40960 _ c.split_first_chunk_mut-2.ensures.cases c.unwrap-2.ensures in
    let three = chunk _ _ 8192 _ c.split_first_chunk_mut-3.ensures.cases c.unwrap-3.ensures in
    let same = front-same m _ _ c.split_at_mut-front.ensures.front c.current.ensures in
    let long = c.write_new.ensures.long in
    renamed-ok m c.args.to.now (binder_of (held 0 m) c.args.binder) _ _ c.write_new.new.area _
    (written-same m _ same c.args.binder.name c.args.to.now (c.args.binder.name.from - 8) c.args.binder.body _ _ c.in-Ok.ensures.written)
    (λ bs count filled.
    c.accept.ensures
    ∙ area-accepted m _ _ _ _ _ _ refl (omega arith) c.split_at_mut-front.ensures.front (reserve_is m _ _ _ _ c.split_at_mut-front.ensures.back one.back two.back three.back) long.0 long.1 long.2 bs _ count filled)
    refl

pub returns-in-Err : goal.returns-in-Err
returns-in-Err c =
    let m = c.args.memory.now in
    let one = chunk _ _ 8192 _ c.split_first_chunk_mut.ensures.cases c.unwrap.ensures in
    let two = chunk _ _ 40960 _ c.split_first_chunk_mut-2.ensures.cases c.unwrap-2.ensures in
    let three = chunk _ _ 8192 _ c.split_first_chunk_mut-3.ensures.cases c.unwrap-3.ensures in
    let same = front-same m _ _ c.split_at_mut-front.ensures.front c.current.ensures in
    let long = c.write_new.ensures.long in
    renamed-err m c.args.to.now (binder_of (held 0 m) c.args.binder) _ _ c.write_new.new.area _
    (written-same m _ same c.args.binder.name c.args.to.now (c.args.binder.name.from - 8) c.args.binder.body _ _ c.in-Err.ensures.written)
    (c.clear.ensures
    ∙ area-wiped m _ _ _ _ _ _ refl (omega arith) c.split_at_mut-front.ensures.front (reserve_is m _ _ _ _ c.split_at_mut-front.ensures.back one.back two.back three.back) long.0 long.1 long.2)
    refl
