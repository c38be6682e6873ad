use Rattle.std.proofs.Common.{◌≡◌, ℕ, Err, refl, ap, true≢false, rules}
use Rattle.std.specs.Prelude.{Some, is_ok, option_to_list, reverse, slice_get}
use Rattle.std.proofs.lemmas.List.Elements.{All-weaker}
use Rattle.wa_syntax.specs.Validity.{HasLabel}
use Rattle.wa_valid.specs.Operands.{stack}
use Rattle.wa_valid.proofs.Steps.{not_ok}
use Rattle.wa_valid.proofs.Typed.{HasLabel-from, label_from-HasLabel, typed-BrTable, untyped-BrTable, unlike-BrTable}
use Rattle.wa_valid.proofs.control.br_table.Goals as goal

pub returns-in_err-all_want : goal.returns-in_err-all_want
returns-in_err-all_want c = λ ctx same.
    let off : c.from_residual-in_err-all_want.result ≡ Err c.in_err-all_want.field-0.0 = search rules in
    let w = c.in_ok-wanted.wanted in
    let has = HasLabel-from ctx c.args.labels.now c.args.default w same c.in_ok-wanted.ensures.ok in (
      λ ok. absurd (not_ok c.from_residual-in_err-all_want.result c.in_err-all_want.field-0.0 off ok),
      λ is. unlike-BrTable ctx c.args.table.now c.args.default (option_to_list w) (stack c.args.operands.now) has
          (λ all. c.in_err-all_want.ensures.1 (cc) (All-weaker (λ (label : ℕ). HasLabel ctx (option_to_list w) label) (λ (label : ℕ). slice_get (reverse c.args.labels.now) label ≡ Some w) (λ label there. label_from-HasLabel ctx c.args.labels.now label w same there) c.args.table.now all)),
    )

pub returns-in_err-apply : goal.returns-in_err-apply
returns-in_err-apply c = λ ctx same.
    let off : c.from_residual-in_err-apply.result ≡ Err c.in_err-apply.field-0.0 = search rules in
    let w = c.in_ok-wanted.wanted in
    let has = HasLabel-from ctx c.args.labels.now c.args.default w same c.in_ok-wanted.ensures.ok in (
      λ ok. absurd (not_ok c.from_residual-in_err-apply.result c.in_err-apply.field-0.0 off ok),
      λ is. untyped-BrTable ctx c.args.table.now c.args.default (option_to_list w) (stack c.args.operands.now) has (c.in_err-apply.ensures.1 (cc)),
    )

pub returns : goal.returns
returns c = λ ctx same.
    let w = c.in_ok-wanted.wanted in
    let has = HasLabel-from ctx c.args.labels.now c.args.default w same c.in_ok-wanted.ensures.ok in (
      λ ok. typed-BrTable ctx c.args.table.now c.args.default (option_to_list w) (stack c.args.operands.now) (stack c.apply.new.self) (stack c.set_unreachable.new.self) has
          (All-weaker (λ (label : ℕ). slice_get (reverse c.args.labels.now) label ≡ Some w) (λ (label : ℕ). HasLabel ctx (option_to_list w) label) (λ label there. HasLabel-from ctx c.args.labels.now label w same there) c.args.table.now (c.in_ok-all_want.ensures.0 refl))
          c.set_unreachable.ensures (c.in_ok-apply.ensures.0 refl),
      λ is. absurd (true≢false (ap is_ok is)),
    )
