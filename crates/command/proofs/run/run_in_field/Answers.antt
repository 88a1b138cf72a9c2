use Rattle.std.proofs.Common.{refl, inl, arith}
use Rattle.command.specs.Lines.{Prime, BinaryTwo, BinaryAll, Sum, Negative, Product, Inverse}
use Rattle.command.proofs.Arms.{has_word, has_count, given, not_given, not_a_number}
use Rattle.command.proofs.run.run_in_field.Goals as goal

pub returns-in_err-parse-in-field : goal.returns-in_err-parse-in-field
returns-in_err-parse-in-field c =
    let words = c.args.words.now in
    inl (Prime, tt, (has_count words 3 c.in-field.len_at_least c.in-field.len_below, has_word words 0 _ (omega arith) c.in-field.is-field, has_word words 1 _ (omega arith) c.in-field.is-prime), not_given words 64 2 _ _ c.in_err-parse-in-field.ensures.value.0 (not_a_number c.from_residual-in_err-parse-in-field.result c.from_residual-in_err-parse-in-field.ensures.1, refl))

pub returns-in_ok-parse-in-field : goal.returns-in_ok-parse-in-field
returns-in_ok-parse-in-field c =
    let words = c.args.words.now in
    inl (Prime, tt, (has_count words 3 c.in-field.len_at_least c.in-field.len_below, has_word words 0 _ (omega arith) c.in-field.is-field, has_word words 1 _ (omega arith) c.in-field.is-prime), given words 64 2 _ _ _ c.in_ok-parse-in-field.ensures.value.0 (_, refl, c.choose_prime.ensures))

pub returns-in_err-parse-in-field-2 : goal.returns-in_err-parse-in-field-2
returns-in_err-parse-in-field-2 c =
    let words = c.args.words.now in
    inl (BinaryTwo, tt, (has_count words 4 c.in-field-2.len_at_least c.in-field-2.len_below, has_word words 0 _ (omega arith) c.in-field-2.is-field, has_word words 1 _ (omega arith) c.in-field-2.is-binary, has_word words 3 _ (omega arith) c.in-field-2.is-two), not_given words 64 2 _ _ c.in_err-parse-in-field-2.ensures.value.0 (not_a_number c.from_residual-in_err-parse-in-field-2.result c.from_residual-in_err-parse-in-field-2.ensures.1, refl))

pub returns-in_ok-parse-in-field-2 : goal.returns-in_ok-parse-in-field-2
returns-in_ok-parse-in-field-2 c =
    let words = c.args.words.now in
    inl (BinaryTwo, tt, (has_count words 4 c.in-field-2.len_at_least c.in-field-2.len_below, has_word words 0 _ (omega arith) c.in-field-2.is-field, has_word words 1 _ (omega arith) c.in-field-2.is-binary, has_word words 3 _ (omega arith) c.in-field-2.is-two), given words 64 2 _ _ _ c.in_ok-parse-in-field-2.ensures.value.0 (_, refl, c.choose_binary.ensures))

pub returns-in_err-parse-in-field-3 : goal.returns-in_err-parse-in-field-3
returns-in_err-parse-in-field-3 c =
    let words = c.args.words.now in
    inl (BinaryAll, tt, (has_count words 4 c.in-field-3.len_at_least c.in-field-3.len_below, has_word words 0 _ (omega arith) c.in-field-3.is-field, has_word words 1 _ (omega arith) c.in-field-3.is-binary, has_word words 3 _ (omega arith) c.in-field-3.is-all), not_given words 64 2 _ _ c.in_err-parse-in-field-3.ensures.value.0 (not_a_number c.from_residual-in_err-parse-in-field-3.result c.from_residual-in_err-parse-in-field-3.ensures.1, refl))

pub returns-in_ok-parse-in-field-3 : goal.returns-in_ok-parse-in-field-3
returns-in_ok-parse-in-field-3 c =
    let words = c.args.words.now in
    inl (BinaryAll, tt, (has_count words 4 c.in-field-3.len_at_least c.in-field-3.len_below, has_word words 0 _ (omega arith) c.in-field-3.is-field, has_word words 1 _ (omega arith) c.in-field-3.is-binary, has_word words 3 _ (omega arith) c.in-field-3.is-all), given words 64 2 _ _ _ c.in_ok-parse-in-field-3.ensures.value.0 (_, refl, c.choose_binary-in-field-3.ensures))

pub returns-in_err-parse-in-negative : goal.returns-in_err-parse-in-negative
returns-in_err-parse-in-negative c =
    let words = c.args.words.now in
    inl (Negative, tt, (has_count words 2 c.in-negative.len_at_least c.in-negative.len_below, has_word words 0 _ (omega arith) c.in-negative.is-negative), (refl, not_given words 16 1 _ _ c.in_err-parse-in-negative.ensures.value.0 (not_a_number c.from_residual.result c.from_residual.ensures.1)))

pub returns-in_ok-parse-in-negative : goal.returns-in_ok-parse-in-negative
returns-in_ok-parse-in-negative c =
    let words = c.args.words.now in
    inl (Negative, tt, (has_count words 2 c.in-negative.len_at_least c.in-negative.len_below, has_word words 0 _ (omega arith) c.in-negative.is-negative), (refl, given words 16 1 _ _ _ c.in_ok-parse-in-negative.ensures.value.0 c.negative.ensures))

pub returns-in_err-parse-in-inverse : goal.returns-in_err-parse-in-inverse
returns-in_err-parse-in-inverse c =
    let words = c.args.words.now in
    inl (Inverse, tt, (has_count words 2 c.in-inverse.len_at_least c.in-inverse.len_below, has_word words 0 _ (omega arith) c.in-inverse.is-inverse), (refl, not_given words 16 1 _ _ c.in_err-parse-in-inverse.ensures.value.0 (not_a_number c.from_residual-in_err-parse-in-inverse.result c.from_residual-in_err-parse-in-inverse.ensures.1)))

pub returns-in_ok-parse-in-inverse : goal.returns-in_ok-parse-in-inverse
returns-in_ok-parse-in-inverse c =
    let words = c.args.words.now in
    inl (Inverse, tt, (has_count words 2 c.in-inverse.len_at_least c.in-inverse.len_below, has_word words 0 _ (omega arith) c.in-inverse.is-inverse), (refl, given words 16 1 _ _ _ c.in_ok-parse-in-inverse.ensures.value.0 c.inverse.ensures))

pub returns-in_err-parse-in-sum : goal.returns-in_err-parse-in-sum
returns-in_err-parse-in-sum c =
    let words = c.args.words.now in
    inl (Sum, tt, (has_count words 3 c.in-sum.len_at_least c.in-sum.len_below, has_word words 0 _ (omega arith) c.in-sum.is-sum), (refl, not_given words 16 1 _ _ c.in_err-parse-in-sum.ensures.value.0 (not_a_number c.from_residual-in_err-parse-in-sum.result c.from_residual-in_err-parse-in-sum.ensures.1)))

pub returns-in_err-parse-in-sum-2 : goal.returns-in_err-parse-in-sum-2
returns-in_err-parse-in-sum-2 c =
    let words = c.args.words.now in
    inl (Sum, tt, (has_count words 3 c.in-sum.len_at_least c.in-sum.len_below, has_word words 0 _ (omega arith) c.in-sum.is-sum), (refl, given words 16 1 _ _ _ c.in_ok-parse-in-sum.ensures.value.0 (not_given words 16 2 _ _ c.in_err-parse-in-sum-2.ensures.value.0 (not_a_number c.from_residual-in_err-parse-in-sum-2.result c.from_residual-in_err-parse-in-sum-2.ensures.1))))

pub returns-in_ok-parse-in-sum-2 : goal.returns-in_ok-parse-in-sum-2
returns-in_ok-parse-in-sum-2 c =
    let words = c.args.words.now in
    inl (Sum, tt, (has_count words 3 c.in-sum.len_at_least c.in-sum.len_below, has_word words 0 _ (omega arith) c.in-sum.is-sum), (refl, given words 16 1 _ _ _ c.in_ok-parse-in-sum.ensures.value.0 (given words 16 2 _ _ _ c.in_ok-parse-in-sum-2.ensures.value.0 c.sum.ensures)))

pub returns-in_err-parse-in-product : goal.returns-in_err-parse-in-product
returns-in_err-parse-in-product c =
    let words = c.args.words.now in
    inl (Product, tt, (has_count words 3 c.in-product.len_at_least c.in-product.len_below, has_word words 0 _ (omega arith) c.in-product.is-product), (refl, not_given words 16 1 _ _ c.in_err-parse-in-product.ensures.value.0 (not_a_number c.from_residual-in_err-parse-in-product.result c.from_residual-in_err-parse-in-product.ensures.1)))

pub returns-in_err-parse-in-product-2 : goal.returns-in_err-parse-in-product-2
returns-in_err-parse-in-product-2 c =
    let words = c.args.words.now in
    inl (Product, tt, (has_count words 3 c.in-product.len_at_least c.in-product.len_below, has_word words 0 _ (omega arith) c.in-product.is-product), (refl, given words 16 1 _ _ _ c.in_ok-parse-in-product.ensures.value.0 (not_given words 16 2 _ _ c.in_err-parse-in-product-2.ensures.value.0 (not_a_number c.from_residual-in_err-parse-in-product-2.result c.from_residual-in_err-parse-in-product-2.ensures.1))))

pub returns-in_ok-parse-in-product-2 : goal.returns-in_ok-parse-in-product-2
returns-in_ok-parse-in-product-2 c =
    let words = c.args.words.now in
    inl (Product, tt, (has_count words 3 c.in-product.len_at_least c.in-product.len_below, has_word words 0 _ (omega arith) c.in-product.is-product), (refl, given words 16 1 _ _ _ c.in_ok-parse-in-product.ensures.value.0 (given words 16 2 _ _ _ c.in_ok-parse-in-product-2.ensures.value.0 c.product.ensures)))
