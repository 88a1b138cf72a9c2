use Rattle.std.proofs.Common.{◌≡◌, ℕ, ◌<◌, [], get_or, vec_items, sym, refl, ◌∙◌, subst, arith}
use Rattle.std.proofs.lemmas.Result.{err_from_is_err_and}
use Rattle.command.specs.Lines.{texts}
use Rattle.command.specs.Runs.{Writes}
use Rattle.command.proofs.Numbers.{pushes_more, writes_at, writes_none_at}
use Rattle.command.proofs.WordTexts.{length_texts}
use Rattle.command.proofs.run.elements.Goals as goal

pub loop-word-preserved : goal.loop-word-preserved
loop-word-preserved c =
    let words = c.args.words.now in
    let pushed = c.in_ok-push.ensures in
    let after = vec_items c.push.new.self in
    let at : get_or after c.loop-word.word-index 0 ≡ c.in_ok-parse.field-0 = subst (λ (n : ℕ). get_or after n 0 ≡ c.in_ok-parse.field-0) c.loop-word.invariant.0 (pushed.by_index.1 0 refl) in (
      omega (arith, pushed.len, c.loop-word.invariant.0),
      pushes_more (λ k x. Writes 16 (get_or (texts words) k []) x) (vec_items c.loop-word.numbers) after c.loop-word.word-index (λ k d h. pushed.by_index.0 k d (omega (arith, c.loop-word.invariant.0))) c.loop-word.invariant.1 (writes_at 16 words c.loop-word.word-index _ _ c.in_ok-parse.ensures.value.0 at),
    )

pub returns-in_err-parse : goal.returns-in_err-parse
returns-in_err-parse c =
    let words = c.args.words.now in
    let p = err_from_is_err_and c.from_residual.result c.from_residual.ensures.1 in
    rw (p.1, p.2) (c.loop-word.word-index, subst (λ (n : ℕ). c.loop-word.word-index < n) (sym (length_texts words)) c.loop-word-test.true, writes_none_at 16 words c.loop-word.word-index c.in_err-parse.ensures.value.0)

pub returns : goal.returns
returns c =
    let words = c.args.words.now in
    let v = c.loop-word.numbers in
    (sym v.ok.0 ∙ c.loop-word.invariant.0 ∙ omega (arith, c.loop-word-test.false, c.loop-word.auto.word-index-end, length_texts words), λ i h. c.loop-word.invariant.1 i (omega (arith, length_texts words, c.loop-word-test.false)))
