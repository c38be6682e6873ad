-- The elements of lists, and the parts of a statement.
use Rattle.std.proofs.Common.{rules, ◌≡◌, ◌∷◌, length, drop, get_or, ◌<◌}
use Rattle.std.proofs.lemmas.Slice.Zip.{Zip-so_far}
use Rattle.sa_typed.specs.declared.stmt.TypedStmt.{the_lemmas}
use Rattle.sa_lower.specs.TypedStatements.{IsArm, IsBranch, IsEntry}
use Rattle.sa_lower.proofs.StmtParts as parts
use Rattle.sa_lower.proofs.+stmts.Goals as goal

pub entries::if_entries-if_entry-requires : goal.entries::if_entries-if_entry-requires
entries::if_entries-if_entry-requires t c = (search (rules, the_lemmas), parts.item (IsEntry _ _) _ _ _ c.loop-entry-test.true c.entry-item.is c.requires)

pub protecting::protect_arms-protect_arm-requires : goal.protecting::protect_arms-protect_arm-requires
protecting::protect_arms-protect_arm-requires t c =
    let so_far = Zip-so_far c.loop-arm.yielded _ _ c.loop-arm.yielded_by in
    let step : c.loop-arm.arm-iterator.a.rest.now ≡ c.in-Some.arm.now ∷ c.next.new.self.a.rest.now = c.in-Some.ensures.steps.0 in
    let whole : c.into_iter-arm-iterator.result.a.rest.now ≡ c.args.list.now = search rules in
    let here : drop (length c.loop-arm.yielded) c.args.list.now ≡ c.in-Some.arm.now ∷ c.next.new.self.a.rest.now = cc (so_far.0) in
    let there = parts.front _ _ _ _ here in
    let within : length c.loop-arm.yielded < length c.args.list.now = there.0 in
    let is : c.in-Some.arm.now ≡ get_or c.args.list.now (length c.loop-arm.yielded) c.in-Some.arm.now = there.1 in
    (search (rules, the_lemmas), parts.item (IsBranch _ _) _ _ _ within is c.requires)

pub stmts::stmt-if_entries-requires : goal.stmts::stmt-if_entries-requires
stmts::stmt-if_entries-requires t c = (search (rules, the_lemmas), parts.if_entries _ _ _ _ _ _ c.in-If.is c.as_slice.ensures c.requires)

pub stmts::stmt-else_stmts-requires : goal.stmts::stmt-else_stmts-requires
stmts::stmt-else_stmts-requires t c = (search (rules, the_lemmas), parts.if_other _ _ _ _ _ _ c.in-If.is c.as_slice-in-If.ensures c.requires)

pub stmts::stmt-loop_stmt-requires : goal.stmts::stmt-loop_stmt-requires
stmts::stmt-loop_stmt-requires t c = (search (rules, the_lemmas), parts.loop_body _ _ _ _ _ _ c.in-Loop.is c.as_slice-in-Loop.ensures c.requires)

pub stmts::stmt-typecase_arms-requires : goal.stmts::stmt-typecase_arms-requires
stmts::stmt-typecase_arms-requires t c =
    (search (rules, the_lemmas), (parts.typecase_variable _ _ _ _ _ _ _ c.in-TypeCase.is c.requires, parts.typecase_arms _ _ _ _ _ _ _ _ c.in-TypeCase.is c.as_slice-in-TypeCase.ensures c.requires))

pub stmts::stmt-else_stmts-requires-in-Some-Some : goal.stmts::stmt-else_stmts-requires-in-Some-Some
stmts::stmt-else_stmts-requires-in-Some-Some t c =
    (search (rules, the_lemmas), parts.typecase_other _ _ _ _ _ _ _ _ _ c.in-TypeCase.is c.in-Some-Some.is-1 c.as_slice-in-Some-Some.ensures c.requires)

pub stmts::stmt-guarded-requires : goal.stmts::stmt-guarded-requires
stmts::stmt-guarded-requires t c = (search (rules, the_lemmas), parts.protect_body _ _ _ _ _ _ c.in-Protect.is c.requires _ c.as_slice-in-Protect.ensures)

pub stmts::stmt-other_stmts-requires : goal.stmts::stmt-other_stmts-requires
stmts::stmt-other_stmts-requires t c =
    (search (rules, the_lemmas), parts.protect_other _ _ _ _ _ _ c.in-Protect.is c.requires _ _ c.in-Some.is c.as_slice-in-Some.ensures)

pub stmts::stmt-protect_arms-requires : goal.stmts::stmt-protect_arms-requires
stmts::stmt-protect_arms-requires t c = (search (rules, the_lemmas), parts.protect_branches _ _ _ _ _ _ c.in-Protect.is c.requires _ c.as_slice-arms.ensures)

pub typecase::known_arm-stmts-requires : goal.typecase::known_arm-stmts-requires
typecase::known_arm-stmts-requires t c =
    let arm : IsArm _ _ c.arm-item.result = parts.item (IsArm _ _) _ _ _ c.loop-arm-test.true c.arm-item.is c.requires in
    (search (rules, the_lemmas), parts.arm_stmts _ _ _ _ c.as_slice.ensures arm)

pub typecase::tested_arms-tested_arm-requires : goal.typecase::tested_arms-tested_arm-requires
typecase::tested_arms-tested_arm-requires t c = (search (rules, the_lemmas), parts.item (IsArm _ _) _ _ _ c.loop-arm-test.true c.arm-item.is c.requires)
