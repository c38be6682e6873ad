use Rattle.std.proofs.Common.{ℕ, ◌∷◌, [], ◌++◌, ◌≡◌, ◌+◌, is_ok, sym, ap, ◌∙◌, subst, arith}
use Rattle.std.proofs.ResultArms.{chosen}
use Rattle.std.proofs.lemmas.List.{take_rest, length-drop}
use Rattle.sa_lexer.specs.Gap.{mark_len}
use Rattle.sa_lexer.specs.Tokens.{Follow, IsTokenAt, gap_end, end_of}
use Rattle.sa_lexer.proofs.TokenLists.{Follow-push, end_of-push}
use Rattle.sa_lexer.proofs.lexer.lex.Goals as goal

-- the token that was read is added to the others, and the gap after it ends at the next position
pub loop-place-preserved : goal.loop-place-preserved
loop-place-preserved c =
    let src = c.args.src.now in
    let token = c.in_ok-token.token in
    let before = c.loop-place.tokens.items in
    let occurs = subst (λ (place : ℕ). IsTokenAt src place token) c.loop-place.invariant.following c.in_ok-token.ensures.token in
    let pushed : c.push.new.self.items ≡ before ++ token ∷ [] =
    chosen _ _ _ _ c.push.ensures.items (sym c.map_err.ensures.variant ∙ ap is_ok c.in_ok-map_err.was) in
    let gap = rw take_rest at c.gap_len.ensures.gap in
    let within = rw take_rest at c.gap_len.ensures.within in
    record {
      follow = subst (Follow src (mark_len src)) (sym pushed) (Follow-push src (mark_len src) before token c.loop-place.invariant.follow occurs);
      following = ap (λ (n : ℕ). token.end + n) gap ∙ ap (gap_end src) (sym (ap (end_of (mark_len src)) pushed ∙ end_of-push (mark_len src) before token));
      in_text = omega (arith, within, length-drop token.end src, occurs.in_text);
    }
