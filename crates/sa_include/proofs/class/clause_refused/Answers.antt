use Rattle.std.proofs.Common.{◌≡◌, ◌≤◌, List, Some, length, refl, slice_get, subst}
use Rattle.std.specs.Prelude.{MatchOption, count_by}
use Rattle.sa_ast.specs.declared.class.Include.{Include}
use Rattle.sa_include_names.specs.Includes.{IsSecond, brings_array}
use Rattle.sa_include_names.specs.Tables.{number_in}
use Rattle.sa_include.specs.Firsts.{do_brought_clash}
use Rattle.sa_include.proofs.Refusing.{a_clause, brought_conflict, of_this_type, second_array}
use Rattle.sa_include.proofs.class.clause_refused.Goals as goal

-- the clause is there where two included features conflict, or two clauses include an array part
pub returns : goal.returns
returns c =
    let program = c.args.program.now in
    let class = c.args.class.now in
    let features = c.args.features.now in
    let test = brings_array (number_in program.includes.now.numbers) program.includes.now.arrays.items in
    let second = c.second_with_array-arrays.result in
    let arrays = subst (λ (clauses : List Include). MatchOption second (count_by test clauses ≤ 1) (IsSecond test clauses)) c.as_slice.ensures c.second_with_array-arrays.ensures in
    let at = subst (λ (clauses : List Include). slice_get clauses c.in-Some.clause ≡ Some c.in_ok-include.include.now) c.as_slice-2.ensures c.in_ok-include.ensures in
    a_clause program.classes.now class c.in_ok-conflict.conflict second
    (do_brought_clash features.immutable features.inherited.now features.written.now features.inherited.now)
    (second_array program class.includes second c.requires.includes arrays)
    (brought_conflict features c.args.conflicts.now c.args.stays.now c.requires.grouped c.requires.stays (length features.inherited.now)
    c.in_ok-conflict.conflict refl c.in_ok-conflict.ensures)
    c.in_ok-clause.field-0 c.in-Some.clause c.at.result c.in_ok-clause.ensures c.in-Some.is
    (of_this_type class.includes c.in-Some.clause c.in_ok-include.include.now c.pos_of.result c.at.result at c.pos_of.ensures c.at.ensures)
