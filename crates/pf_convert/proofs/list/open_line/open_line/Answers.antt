use Rattle.std.proofs.Common.{◌≡◌, ◌∙◌, ◌+◌, drop, get_or, sym, ap, arith}
use Rattle.std.specs.Prelude.{◌&&◌, not, if◌then◌else◌}
use Rattle.pf_text.specs.Rows.Places.{is_between, line_after}
use Rattle.pf_convert.specs.List.Quotes.{Reading, first_reading, line_if_quoted, reading_after, reading_from, state_of}
use Rattle.pf_convert.proofs.ListLemmas.Quoting.{byte_passed, quoted_at}
use Rattle.pf_convert.proofs.list.open_line.open_line.Goals as goal

pub loop-byte-preserved : goal.loop-byte-preserved
loop-byte-preserved c =
    let bytes = c.without_mark-bytes.result.now in
    let i = c.loop-byte.byte-index in
    let byte = get_or bytes i 0 in
    let here : Reading =
    record { state = state_of c.loop-byte.state; line = c.loop-byte.line; before = c.loop-byte.before; begun = c.loop-byte.begun } in
    let next : Reading =
    record { state = state_of c.after-next.result; line = c.line_after-line.result; before = byte; begun = c.begun_after-begun.result } in
    let lined : next ≡ record next { line = line_after c.loop-byte.line c.loop-byte.before byte } =
    ap (λ x. record next { line = x }) c.line_after-line.ensures.line in
    let begun : record next { line = line_after c.loop-byte.line c.loop-byte.before byte }
    ≡ record next {
      line = line_after c.loop-byte.line c.loop-byte.before byte;
      begun =
          if is_between (state_of c.loop-byte.state) && not (is_between (state_of c.after-next.result)) then c.loop-byte.line else c.loop-byte.begun;
    } =
    ap (λ x. record next { line = line_after c.loop-byte.line c.loop-byte.before byte; begun = x }) c.begun_after-begun.ensures in
    let stated : record next {
      line = line_after c.loop-byte.line c.loop-byte.before byte;
      begun =
          if is_between (state_of c.loop-byte.state) && not (is_between (state_of c.after-next.result)) then c.loop-byte.line else c.loop-byte.begun;
    }
    ≡ reading_after here byte =
    ap (λ x. record {
      state = x;
      line = line_after c.loop-byte.line c.loop-byte.before byte;
      before = byte;
      begun = if is_between (state_of c.loop-byte.state) && not (is_between x) then c.loop-byte.line else c.loop-byte.begun;
    }) c.after-next.ensures in
    record {
      read =
          ap (λ r. reading_from r (drop (i + 1) bytes)) (lined ∙ begun ∙ stated) ∙ sym (byte_passed bytes i here c.loop-byte-test.true)
          ∙ c.loop-byte.invariant.read;
      near = omega (arith, c.line_after-line.ensures.near, c.loop-byte.invariant.near);
    }

pub returns-then-is_quoted : goal.returns-then-is_quoted
returns-then-is_quoted c =
    let here : Reading =
    record { state = state_of c.loop-byte.state; line = c.loop-byte.line; before = c.loop-byte.before; begun = c.loop-byte.begun } in
    quoted_at c.without_mark-bytes.result.now c.loop-byte.byte-index here _ c.loop-byte-test.false c.loop-byte.invariant.read
    (sym c.is_quoted.ensures ∙ c.if-is_quoted.true)
    ∙ ap (λ bytes. line_if_quoted (reading_from first_reading bytes)) c.without_mark-bytes.ensures

pub returns-else-is_quoted : goal.returns-else-is_quoted
returns-else-is_quoted c =
    let here : Reading =
    record { state = state_of c.loop-byte.state; line = c.loop-byte.line; before = c.loop-byte.before; begun = c.loop-byte.begun } in
    quoted_at c.without_mark-bytes.result.now c.loop-byte.byte-index here _ c.loop-byte-test.false c.loop-byte.invariant.read
    (sym c.is_quoted.ensures ∙ c.if-is_quoted.false)
    ∙ ap (λ bytes. line_if_quoted (reading_from first_reading bytes)) c.without_mark-bytes.ensures
