use Rattle.std.proofs.Common.{◌≡◌, [], ◌∷◌, ◌++◌, false, codes, refl, ap, ◌∙◌, append_assoc}
use Rattle.dsn_report.proofs.BlockLemmas.{block-line, block-none, plain-line}
use Rattle.dsn_report.proofs.LineWriterLemmas.{Wrote-as, Wrote-none}
use Rattle.dsn_report.specs.DeliveryStatus.{line_if_any}
use Rattle.dsn_report.specs.Lines.{begins_with_dot}
use Rattle.dsn_report.proofs.notice_lines.write_typed_if_any.Goals as goal

pub returns-in_default : goal.returns-in_default
unfolding line_if_any
returns-in_default g c = λ usual_type is. Wrote-as (rw c.in_default.is refl) (Wrote-none c.args.lines.now)

pub returns-in-Some-kind : goal.returns-in-Some-kind
unfolding line_if_any
returns-in-Some-kind g c = λ usual_type is.
    let kind = c.in-Some-kind.kind.now in
    let value = c.in-Some.value.now in
    let same : c.args.name.now ++ kind ++ codes "; " ++ value ≡ c.args.name.now ++ (kind ++ (codes "; " ++ value)) = simp append_assoc refl in
    let plain : begins_with_dot (c.args.name.now ++ kind ++ codes "; " ++ value) ≡ false =
    ap begins_with_dot same ∙ plain-line c.args.name.now (kind ++ (codes "; " ++ value)) c.requires.name in
    Wrote-as (rw (c.in-Some.is, c.in-Some-kind.is) refl)
    (c.block.ensures _ (block-line c.args.name.now (kind ∷ codes "; " ∷ value ∷ []) plain block-none))

pub returns-in-None : goal.returns-in-None
unfolding line_if_any
returns-in-None g c = λ usual_type is.
    let value = c.in-Some.value.now in
    let plain = plain-line c.args.usual.now value c.requires.usual in
    Wrote-as (rw (c.in-Some.is, c.in-None.is) (ap (λ front. (front ++ value) ∷ []) is))
    (c.block-in-None.ensures _ (block-line c.args.usual.now (value ∷ []) plain block-none))
