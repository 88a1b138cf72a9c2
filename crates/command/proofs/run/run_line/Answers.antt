use Rattle.std.proofs.Common.{refl, inl, arith}
use Rattle.console.specs.States.{Checked, WrittenOut, ListedOut, OverField}
use Rattle.command.specs.Lines.{texts, Check, Write, ListWords}
use Rattle.command.proofs.Arms.{has_word}
use Rattle.command.proofs.Runs.{list_read, list_not_read, ran_plan}
use Rattle.command.proofs.run.run_line.Goals as goal

pub returns-in_err-elements-in-check : goal.returns-in_err-elements-in-check
returns-in_err-elements-in-check c =
    let words = c.args.words.now in
    inl (Check, has_word words 0 _ (omega arith) c.in-check.is-check, (refl, list_not_read (λ xs. OverField c.args.console.now.field (λ m. Checked c.args.console.now.plan m xs)) words _ _ c.in_err-elements-in-check.ensures c.from_residual.ensures.1))

pub returns-in_ok-elements-in-check : goal.returns-in_ok-elements-in-check
returns-in_ok-elements-in-check c =
    let words = c.args.words.now in
    let console = c.args.console.now in
    inl (Check, has_word words 0 _ (omega arith) c.in-check.is-check, (refl, list_read (λ xs. OverField console.field (λ m. Checked console.plan m xs)) words c.in_ok-elements-in-check.field-0 _ _ c.in_ok-elements-in-check.ensures c.deref.ensures.value c.check.ensures))

pub returns-in_err-elements-in-write : goal.returns-in_err-elements-in-write
returns-in_err-elements-in-write c =
    let words = c.args.words.now in
    inl (Write, has_word words 0 _ (omega arith) c.in-write.is-write, (refl, list_not_read (λ xs. OverField c.args.console.now.field (λ m. WrittenOut c.args.console.now.plan m xs)) words _ _ c.in_err-elements-in-write.ensures c.from_residual-in_err-elements-in-write.ensures.1))

pub returns-in_ok-elements-in-write : goal.returns-in_ok-elements-in-write
returns-in_ok-elements-in-write c =
    let words = c.args.words.now in
    let console = c.args.console.now in
    inl (Write, has_word words 0 _ (omega arith) c.in-write.is-write, (refl, list_read (λ xs. OverField console.field (λ m. WrittenOut console.plan m xs)) words c.in_ok-elements-in-write.field-0 _ _ c.in_ok-elements-in-write.ensures c.deref-in-write.ensures.value c.write.ensures))

pub returns-in_err-elements-in-list : goal.returns-in_err-elements-in-list
returns-in_err-elements-in-list c =
    let words = c.args.words.now in
    inl (ListWords, has_word words 0 _ (omega arith) c.in-list.is-list, (refl, list_not_read (λ xs. OverField c.args.console.now.field (λ m. ListedOut c.args.console.now.plan m xs)) words _ _ c.in_err-elements-in-list.ensures c.from_residual-in_err-elements-in-list.ensures.1))

pub returns-in_ok-elements-in-list : goal.returns-in_ok-elements-in-list
returns-in_ok-elements-in-list c =
    let words = c.args.words.now in
    let console = c.args.console.now in
    inl (ListWords, has_word words 0 _ (omega arith) c.in-list.is-list, (refl, list_read (λ xs. OverField console.field (λ m. ListedOut console.plan m xs)) words c.in_ok-elements-in-list.field-0 _ _ c.in_ok-elements-in-list.ensures c.deref-in-list.ensures.value c.list.ensures))

pub returns-in-plan : goal.returns-in-plan
returns-in-plan c = ran_plan (texts c.args.words.now) c.args.console.now _ _ (has_word c.args.words.now 0 _ (omega arith) c.in-plan.is-plan) c.run_plan.ensures

pub run_plan-requires : goal.run_plan-requires
run_plan-requires c = has_word c.args.words.now 0 _ (omega arith) c.in-plan.is-plan
