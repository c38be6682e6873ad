use Rattle.std.proofs.Common.{length, refl, subst}
use Rattle.std.specs.Prelude.{MatchOption}
use Rattle.sa_include_conflicts.specs.Sharing.{IsFirstConflict, NoConflict}
use Rattle.sa_include.proofs.Refusing.{a_written}
use Rattle.sa_include.proofs.class.written_refused.Goals as goal

-- the feature at the index of the first conflict is the first written one that is in one
pub returns : goal.returns
returns c =
    let features = c.args.features.now in
    let conflicts = c.args.conflicts.now in
    let stays = c.args.stays.now in
    let first = length features.inherited.now in
    let found = subst (λ o. MatchOption o (NoConflict conflicts stays first c.len.result) (IsFirstConflict conflicts stays first c.len.result)) c.in-Some.is c.in_ok-place.ensures in
    a_written features conflicts stays c.requires.grouped c.requires.stays first c.len.result c.in-Some.place c.in_ok-pos.field-0.now c.at-2.result
    refl found c.in_ok-pos.ensures c.at-2.ensures
