use Rattle.std.proofs.Common.{◌∙◌, ◌+◌, ◌<◌, ℕ, All, List, [], ◌∷◌, length, map, slice_index_or, ap, sym, subst, rules, arith}
use Rattle.std.specs.Borrow.{Bor}
use Rattle.std.proofs.lemmas.List.{length-append, length-map}
use Rattle.std.proofs.lemmas.List.Elements.{All-push}
use Rattle.sa_read.specs.FileContents.{HasFile}
use Rattle.sa_read.specs.SourceFiles.{AreNamed, HaveTexts, IsCut, size, too_large}
use Rattle.sa_read.proofs.ReadLemmas.{cut_of, whole_of}
use Rattle.sa_read.proofs.ProgramLemmas.{cut, name_at, named_more, next, size_more, texts_more, unread}
use Rattle.sa_read.proofs.source_files.read_program.Goals as goal

abbrev no_name : Bor (List ℕ)
no_name = record { ref_ptr = (0, 0); now = [] }

abbrev texts_of : List (Bor (List ℕ)) → List (List ℕ)
texts_of names = map (λ (name : Bor (List ℕ)). name.now) names

pub returns-in_err-text-clause-failed : goal.returns-in_err-text-clause-failed
returns-in_err-text-clause-failed g c =
    λ failed. unread (g.S.ReadFiles.files c.args.store.now) c.args.names.now c.loop-place.sources c.loop-place.place no_name _ _ _ c.loop-place.invariant.named c.loop-place.invariant.texts (omega (arith, c.loop-place.invariant.room)) c.loop-place-test.true c.loop-place.invariant.count
    (rw (← c.loop-place.invariant.files) (c.in_err-text.ensures.failed (search (rules, failed))))

pub returns-in-Cut-clause-read : goal.returns-in-Cut-clause-read
returns-in-Cut-clause-read g c =
    let names = texts_of c.args.names.now in
    let there : c.loop-place.place < length names = omega (arith, length-map c.args.names.now (λ (name : Bor (List ℕ)). name.now), c.loop-place-test.true) in
    let is = name_at c.args.names.now c.loop-place.place no_name c.loop-place-test.true in
    let number = c.in_ok-number.ensures.value.0 ∙ c.len.ensures ∙ c.loop-place.invariant.named.count in
    let refusal = c.too_large.ensures ∙ ap (λ k. too_large k c.loop-place.room) number in
    let longer = cut_of (g.S.ReadFiles.files c.args.store.now) (g.S.ReadFiles.files c.loop-place.store) _ c.loop-place.room _ c.in-Cut.text c.loop-place.invariant.files c.in-Cut.is c.in_ok-text.ensures.read in
    subst (IsCut (g.S.ReadFiles.files c.args.store.now) names c.add-in-Cut.new.sources) (sym refusal)
    (cut (g.S.ReadFiles.files c.args.store.now) names c.loop-place.sources c.add-in-Cut.new.sources c.loop-place.place c.loop-place.room _ c.in-Cut.text.items c.loop-place.invariant.named c.loop-place.invariant.texts c.loop-place.invariant.room there is c.in_ok-add-in-Cut.ensures.names c.in_ok-add-in-Cut.ensures.texts longer.0)

pub returns-in-Cut-clause-short : goal.returns-in-Cut-clause-short
returns-in-Cut-clause-short g c =
    let longer = cut_of (g.S.ReadFiles.files c.args.store.now) (g.S.ReadFiles.files c.loop-place.store) (slice_index_or c.args.names.now c.loop-place.place no_name).now c.loop-place.room _ c.in-Cut.text c.loop-place.invariant.files c.in-Cut.is c.in_ok-text.ensures.read in
    let small : length c.in-Cut.text.items < 4294967295 = omega (arith, longer.1, c.loop-place.invariant.within) in
    subst (All (λ text. length text < 4294967295)) (sym c.in_ok-add-in-Cut.ensures.texts) (All-push (λ text. length text < 4294967295) c.loop-place.sources.texts c.in-Cut.text.items c.loop-place.invariant.short small)

pub loop-place-preserved : goal.loop-place-preserved
loop-place-preserved g c =
    let names = texts_of c.args.names.now in
    let there : c.loop-place.place < length names = omega (arith, length-map c.args.names.now (λ (name : Bor (List ℕ)). name.now), c.loop-place-test.true) in
    let is = name_at c.args.names.now c.loop-place.place no_name c.loop-place-test.true in
    let whole = whole_of (g.S.ReadFiles.files c.args.store.now) (g.S.ReadFiles.files c.loop-place.store) (slice_index_or c.args.names.now c.loop-place.place no_name).now c.loop-place.room _ c.in-Whole.text c.loop-place.invariant.files c.in-Whole.is c.in_ok-text.ensures.read in
    let here = subst (λ name. HasFile (g.S.ReadFiles.files c.args.store.now) name c.in-Whole.text.items) is whole.0 in
    record {
      named = subst (AreNamed names c.add.new.sources) (next c.loop-place.place) (named_more names c.loop-place.sources c.add.new.sources c.loop-place.place _ c.in-Whole.text.items c.loop-place.invariant.named there is c.in_ok-add-in-Whole.ensures.names c.in_ok-add-in-Whole.ensures.texts);
      texts = subst (λ texts. HaveTexts (g.S.ReadFiles.files c.args.store.now) names texts (c.loop-place.place + 1)) (sym c.in_ok-add-in-Whole.ensures.texts) (texts_more (g.S.ReadFiles.files c.args.store.now) names c.loop-place.sources.texts c.loop-place.place c.in-Whole.text.items c.loop-place.invariant.named.count here c.loop-place.invariant.texts);
      room = omega (arith, ap size c.in_ok-add-in-Whole.ensures.texts, size_more c.loop-place.sources.texts c.in-Whole.text.items, c.loop-place.invariant.room, c.len-room.ensures, whole.1);
      short = subst (All (λ text. length text < 4294967295)) (sym c.in_ok-add-in-Whole.ensures.texts) (All-push (λ text. length text < 4294967295) c.loop-place.sources.texts c.in-Whole.text.items c.loop-place.invariant.short (omega (arith, whole.1, c.loop-place.invariant.within)));
      few = omega (arith, ap length c.in_ok-add-in-Whole.ensures.texts, length-append c.loop-place.sources.texts (c.in-Whole.text.items ∷ []), c.in_ok-number.ensures.value.1, c.len.ensures);
      within = omega (arith, c.len-room.ensures, c.loop-place.invariant.within);
      files = search rules;
      count = search rules;
    }
