use Rattle.std.proofs.Common.{◌∙◌, sym, rules}
use Rattle.sa_cli.proofs.NumberLemmas.{number_none}
use Rattle.sa_cli.proofs.number.number_in.Goals as goal

pub returns-in_err-value : goal.returns-in_err-value
returns-in_err-value c =
    let none = number_none c.args.least c.args.most c.args.text.now c.from_str.result c.from_str.ensures.0 (search rules) (sym c.in_err-value.ensures.value) c.ranges.most.fits in
    c.from_residual.ensures ∙ sym none
