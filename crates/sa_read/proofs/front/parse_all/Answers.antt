use Rattle.std.proofs.Common.{◌≡◌, ◌∙◌, length, subst, rules, arith}
use Rattle.sa_read.specs.Front.{IsParsedUpTo}
use Rattle.sa_read.proofs.FrontLemmas.{grammar, nothing_parsed, parsed_more}
use Rattle.sa_read.proofs.front.parse_all.Goals as goal

pub loop-number-init : goal.loop-number-init
loop-number-init c = nothing_parsed c.args.texts.now _ c.new.ensures c.new-2.ensures

pub returns-in_err-file-clause-refused : goal.returns-in_err-file-clause-refused
returns-in_err-file-clause-refused c =
    let texts = c.args.texts.now in
    let l = c.loop-number in
    let there = c.loop-number-test.true in
    let given = c.requires in
    let file = c.in_err-file in
    search (
      rules,
      grammar texts c.args.lists.now l.number l.parsed file.field-0.0 given.tokens there given.taken l.invariant file.ensures.refused,
    )

pub loop-number-preserved : goal.loop-number-preserved
loop-number-preserved c =
    let l = c.loop-number in
    let first = c.in_ok-first.ensures.0 ∙ c.len.ensures in
    let file = c.in_ok-file.ensures.classes in
    let put = c.in_ok-append.ensures in
    parsed_more c.args.texts.now l.number _ l.parsed _ c.append.new.parsed l.invariant first file put.classes put.contracts

pub returns-clause-classes : goal.returns-clause-classes
returns-clause-classes c =
    let all : c.loop-number.number ≡ length c.args.texts.now = omega (arith, c.loop-number-test.false, c.loop-number.auto.number-end) in
    subst (λ n. IsParsedUpTo c.args.texts.now n c.loop-number.parsed) all c.loop-number.invariant
