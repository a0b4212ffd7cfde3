-- One word after the other.
use Rattle.std.proofs.Common.{◌≡◌, ◌≢◌, ◌+◌, ◌/◌, ◌%◌, length, set, sym, ap, ◌∙◌, arith, get_or, []}
use Rattle.language.specs.Packed.{word_of, packed}
use Rattle.language.proofs.ListFacts.{written_more, written_all}
use Rattle.language.proofs.PackedLaws.{length_packed_words, packed_word}
use Rattle.machine.proofs.LoadFacts.{word_whole, word_last}
use borrow.Author.Tests.{eqb-true, eqb-false}
use Rattle.std.specs.Int.{from_be_bytes}
use mir.Syntax.{w64}
use Rattle.machine.proofs.load.pack.Goals as goal

pub loop-k-preserved : goal.loop-k-preserved
loop-k-preserved c =
    let long = length_packed_words c.args.text.now in
    let front : length c.as_chunks.result.0.now ≡ length c.args.text.now / 8 = c.as_chunks.ensures.front_len in
    written_more (packed c.args.text.now) c.loop-k.words c.args.words.now c.loop-k.k _ (omega arith) (omega arith)
    c.loop-k.invariant
    (c.from_be_bytes.ensures ∙ ap (λ cs. from_be_bytes w64 (get_or cs c.loop-k.k [])) c.as_chunks.ensures.front ∙ word_whole c.args.text.now c.loop-k.k (omega arith)
    ∙ sym (packed_word c.args.text.now c.loop-k.k (omega arith)))

pub returns-then-not-is_empty : goal.returns-then-not-is_empty
returns-then-not-is_empty c =
    let long = length_packed_words c.args.text.now in
    let front : length c.as_chunks.result.0.now ≡ length c.args.text.now / 8 = c.as_chunks.ensures.front_len in
    let back : length c.as_chunks.result.1.now ≡ length c.args.text.now % 8 = c.as_chunks.ensures.back_len in
    let some : length c.as_chunks.result.1.now ≢ 0 = eqb-false _ _ (sym c.if-not-is_empty.ensures) in
    let k : c.loop-k.k ≡ length c.args.text.now / 8 = omega arith in
    ap (λ n. set c.loop-k.words n c.last_word.result) (front ∙ sym k)
    ∙ written_all (packed c.args.text.now) _ c.args.words.now (c.loop-k.k + 1) _
    (written_more (packed c.args.text.now) c.loop-k.words c.args.words.now c.loop-k.k _ (omega arith) (omega arith) c.loop-k.invariant
    (c.last_word.ensures ∙ ap (λ l. word_of l 0) c.as_chunks.ensures.back ∙ word_last c.args.text.now ∙ ap (word_of c.args.text.now) (sym k)
    ∙ sym (packed_word c.args.text.now c.loop-k.k (omega arith)))) long (omega arith)

pub returns-else-not-is_empty : goal.returns-else-not-is_empty
returns-else-not-is_empty c =
    let long = length_packed_words c.args.text.now in
    let front : length c.as_chunks.result.0.now ≡ length c.args.text.now / 8 = c.as_chunks.ensures.front_len in
    let back : length c.as_chunks.result.1.now ≡ length c.args.text.now % 8 = c.as_chunks.ensures.back_len in
    let none : length c.as_chunks.result.1.now ≡ 0 = eqb-true _ _ (sym c.if-not-is_empty.ensures) in
    written_all (packed c.args.text.now) c.loop-k.words c.args.words.now c.loop-k.k _ c.loop-k.invariant long (omega arith)
