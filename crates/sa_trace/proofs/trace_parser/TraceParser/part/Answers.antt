use Rattle.std.proofs.Common.{◌≡◌, ◌∙◌, ◌++◌, List, ℕ, true, drop, take, ap, subst, sym}
use Rattle.std.proofs.lemmas.List.{take-append-drop, take_rest}
use Rattle.sa_trace.specs.TraceRecords.{AreTraceRecords, BeginsNone}
use Rattle.sa_trace.specs.Pieces.{AreWrong, ParserState}
use Rattle.sa_trace.proofs.Joined.{are-placed, keeps, read-on}
use Rattle.sa_trace.proofs.trace_parser.TraceParser.part.Goals as goal

pub returns-clause-read : goal.returns-clause-read
returns-clause-read c came earlier read =
    let positions = c.args.positions.now in
    let sources = c.args.sources.now in
    let bytes = c.args.bytes.now in
    let all = c.extend_from_slice.new.self.items in
    let end = c.in_ok-frames.end in
    let frames = c.in_ok-frames.frames.items in
    let left = take_rest c.deref.result.now end ∙ ap (drop end) c.deref.ensures.value in
    let ends = subst (λ (xs : List ℕ). BeginsNone positions sources (drop end xs)) c.as_slice.ensures.value c.in_ok-frames.ensures.ends in
    let are = subst (λ (xs : List ℕ). AreTraceRecords positions sources (take end xs) frames) c.as_slice.ensures.value c.in_ok-frames.ensures.frames in
    let wrongs = λ (is : c.are_wrong-self-inside.result ≡ true). subst (AreWrong positions sources) left (c.are_wrong-self-inside.ensures is) in
    let kept = c.in_ok-self-inside.field-0.items in
    let following = keeps positions sources kept (drop end all) c.are_wrong-self-inside.result (c.in_ok-self-inside.ensures.items ∙ left) ends wrongs in
    let split =
    ap (λ (xs : List ℕ). xs ++ bytes) (sym (ap (λ (l : ParserState). l.begun) c.self.view_is)) ∙ sym c.in_ok-extend_from_slice.ensures.items
    ∙ sym (take-append-drop end all)
    in
    read-on positions sources came bytes (take end all) (drop end all) earlier frames c.args.self.now
    (record { begun = kept; wrong = c.are_wrong-self-inside.result }) (sym (ap (λ (l : ParserState). l.wrong) c.self.view_is) ∙ c.if-self.false)
    split are following read

pub returns-clause-placed : goal.returns-clause-placed
returns-clause-placed c =
    are-placed c.args.positions.now c.args.sources.now (take c.in_ok-frames.end c.as_slice.result.now) c.in_ok-frames.frames.items
    c.in_ok-frames.ensures.frames
