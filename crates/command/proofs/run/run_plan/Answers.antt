use Rattle.std.proofs.Common.{◌≡◌, ℕ, ◌+◌, ◌-◌, ◌≤◌, List, Err, Some, None, length, take, drop, codes, vec_items, refl, subst, subst₂, inl, inr, arith, Bor}
use Rattle.std.proofs.lemmas.Result.{err_from_is_err_and}
use Rattle.std.specs.List.{position}
use Rattle.std.specs.Str.{bytes_eq}
use Rattle.plan.specs.declared.asked.Parameters.{Parameters}
use Rattle.console.specs.States.{Planned}
use Rattle.command.specs.Lines.{texts, Word, FirstSlash, Spells, Verb, Plan}
use Rattle.command.specs.Runs.{Listed, Elements}
use Rattle.command.proofs.Arms.{has_word}
use Rattle.command.proofs.PlanLines.{texts_of_lists, texts_of_support, texts_of_multipliers, six_numbers, no_number, no_support, no_multipliers, not_listed}
use Rattle.command.proofs.Slashes.{first_slash, slash_past, no_slash_past}
use Rattle.command.proofs.run.run_plan.Goals as goal

second : (words : List (Bor (List ℕ))) (j : ℕ) → 8 ≤ length words → Some j ≡ position (λ w. bytes_eq w.now (codes "/")) (take (length words - 8) (drop 8 words)) → FirstSlash (texts words) 8 (Some (8 + j))
second words j long e =
    slash_past (texts words) 8 j (subst (λ ws. FirstSlash ws 0 (Some j)) (texts_of_lists words j long) (first_slash (take (length words - 8) (drop 8 words)) (Some j) e))

spelled : (words : List (Bor (List ℕ))) (j : ℕ) → Word (texts words) 0 (codes "plan") → Word (texts words) 7 (codes "/") → FirstSlash (texts words) 8 (Some (8 + j)) → Spells Plan (texts words)
spelled words j first seventh f = (first, seventh, (8 + j, f.0, f.1))

pub returns-in_default-slash : goal.returns-in_default-slash
returns-in_default-slash c = inr (none, refl, refl)
  where
    words : List (Bor (List ℕ))
    words = c.args.words.now

    unslashed : FirstSlash (texts words) 8 None
    unslashed = no_slash_past (texts words) 8 (subst (λ ws. FirstSlash ws 0 None) (texts_of_lists words 0 c.in-text.len_at_least) (first_slash (take (length words - 8) (drop 8 words)) None c.in_default-slash.ensures))

    none : (v : Verb) → v ≡ Plan → Spells v (texts words) → ⊥
    none v e s = let t : Spells Plan (texts words) = subst (λ u. Spells u (texts words)) e s in unslashed t.2.0 t.2.1 t.2.2

pub returns-in_err-parse : goal.returns-in_err-parse
returns-in_err-parse c =
    let words = c.args.words.now in
    let f = second words _ c.in-text.len_at_least c.in-Some.ensures in
    inl (Plan, refl, spelled words _ c.requires (has_word words 7 _ (omega arith) c.in-text.is-text) f, no_number words c.args.console.now _ 0 (omega arith) c.in_err-parse.ensures.value.0 c.from_residual.ensures.1)

pub returns-in_err-parse-2 : goal.returns-in_err-parse-2
returns-in_err-parse-2 c =
    let words = c.args.words.now in
    let f = second words _ c.in-text.len_at_least c.in-Some.ensures in
    inl (Plan, refl, spelled words _ c.requires (has_word words 7 _ (omega arith) c.in-text.is-text) f, no_number words c.args.console.now _ 1 (omega arith) c.in_err-parse-2.ensures.value.0 c.from_residual-in_err-parse-2.ensures.1)

pub returns-in_err-parse-3 : goal.returns-in_err-parse-3
returns-in_err-parse-3 c =
    let words = c.args.words.now in
    let f = second words _ c.in-text.len_at_least c.in-Some.ensures in
    inl (Plan, refl, spelled words _ c.requires (has_word words 7 _ (omega arith) c.in-text.is-text) f, no_number words c.args.console.now _ 2 (omega arith) c.in_err-parse-3.ensures.value.0 c.from_residual-in_err-parse-3.ensures.1)

pub returns-in_err-parse-4 : goal.returns-in_err-parse-4
returns-in_err-parse-4 c =
    let words = c.args.words.now in
    let f = second words _ c.in-text.len_at_least c.in-Some.ensures in
    inl (Plan, refl, spelled words _ c.requires (has_word words 7 _ (omega arith) c.in-text.is-text) f, no_number words c.args.console.now _ 3 (omega arith) c.in_err-parse-4.ensures.value.0 c.from_residual-in_err-parse-4.ensures.1)

pub returns-in_err-parse-5 : goal.returns-in_err-parse-5
returns-in_err-parse-5 c =
    let words = c.args.words.now in
    let f = second words _ c.in-text.len_at_least c.in-Some.ensures in
    inl (Plan, refl, spelled words _ c.requires (has_word words 7 _ (omega arith) c.in-text.is-text) f, no_number words c.args.console.now _ 4 (omega arith) c.in_err-parse-5.ensures.value.0 c.from_residual-in_err-parse-5.ensures.1)

pub returns-in_err-parse-6 : goal.returns-in_err-parse-6
returns-in_err-parse-6 c =
    let words = c.args.words.now in
    let f = second words _ c.in-text.len_at_least c.in-Some.ensures in
    inl (Plan, refl, spelled words _ c.requires (has_word words 7 _ (omega arith) c.in-text.is-text) f, no_number words c.args.console.now _ 5 (omega arith) c.in_err-parse-6.ensures.value.0 c.from_residual-in_err-parse-6.ensures.1)

pub returns-in_err-support : goal.returns-in_err-support
returns-in_err-support c =
    let words = c.args.words.now in
    let j = c.in-Some.slash in
    let f = second words _ c.in-text.len_at_least c.in-Some.ensures in
    let p = err_from_is_err_and c.from_residual-in_err-support.result c.from_residual-in_err-support.ensures.1 in
    let told = subst (λ (ws : List (List ℕ)). Listed ws (Err c.in_err-support.field-0.0)) (texts_of_support words j c.in-text.len_at_least) c.in_err-support.ensures in
    inl (Plan, refl, spelled words _ c.requires (has_word words 7 _ (omega arith) c.in-text.is-text) f, rw (p.1, p.2) (not_listed _ (texts words) c.args.console.now _ told (no_support (texts words) _ f)))

pub returns-in_err-multipliers : goal.returns-in_err-multipliers
returns-in_err-multipliers c =
    let words = c.args.words.now in
    let j = c.in-Some.slash in
    let f = second words _ c.in-text.len_at_least c.in-Some.ensures in
    let p = err_from_is_err_and c.from_residual-in_err-multipliers.result c.from_residual-in_err-multipliers.ensures.1 in
    let told = subst (λ (ws : List (List ℕ)). Listed ws (Err c.in_err-multipliers.field-0.0)) (texts_of_multipliers words j c.in-text.len_at_least) c.in_err-multipliers.ensures in
    inl (Plan, refl, spelled words _ c.requires (has_word words 7 _ (omega arith) c.in-text.is-text) f, rw (p.1, p.2) (not_listed _ (texts words) c.args.console.now _ told (no_multipliers (texts words) _ f)))

pub returns : goal.returns
returns c =
    let words = c.args.words.now in
    let j = c.in-Some.slash in
    let f = second words _ c.in-text.len_at_least c.in-Some.ensures in
    let α = vec_items c.in_ok-support.support in
    let β = vec_items c.in_ok-multipliers.multipliers in
    let asked : Parameters = record {
      size = c.in_ok-parse.field-0;
      n = c.in_ok-parse-2.field-0;
      t = c.in_ok-parse-3.field-0;
      w = c.in_ok-parse-4.field-0;
      k = c.in_ok-parse-5.field-0;
      l = c.in_ok-parse-6.field-0;
    } in
    inl (
      Plan,
      refl,
      spelled words _ c.requires (has_word words 7 _ (omega arith) c.in-text.is-text) f,
      (
        asked,
        α,
        β,
        record {
          six = six_numbers words _ _ _ _ _ _ c.in_ok-parse.ensures.value.0 c.in_ok-parse-2.ensures.value.0 c.in_ok-parse-3.ensures.value.0 c.in_ok-parse-4.ensures.value.0 c.in_ok-parse-5.ensures.value.0 c.in_ok-parse-6.ensures.value.0;
          slash = 8 + j;
          second = f;
          supported = subst (λ (ws : List (List ℕ)). Elements ws α) (texts_of_support words j c.in-text.len_at_least) c.in_ok-support.ensures;
          multiplied = subst (λ (ws : List (List ℕ)). Elements ws β) (texts_of_multipliers words j c.in-text.len_at_least) c.in_ok-multipliers.ensures;
        },
        subst₂ (λ (x y : List ℕ). Planned asked x y c.args.console.now c.plan.result c.plan.new.self) c.deref.ensures.value c.deref-2.ensures.value c.plan.ensures,
      ),
    )
