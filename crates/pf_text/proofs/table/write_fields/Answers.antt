use Rattle.std.proofs.Common.{◌≡◌, ◌≢◌, ◌∙◌, ◌++◌, ◌+◌, ◌-◌, ◌^◌, ◌<◌, ◌≤◌, [], get_or, length, take, refl, sym, ap, append-nil, append_assoc, arith, rules}
use Rattle.csv.specs.declared.writer.QuoteStyle.TheVariants as style
use Rattle.csv.specs.Writing.{field_text, has_written, is_blank, next_sep, row_body, writer_setup}
use Rattle.csv.proofs.WriteFacts.{blank-step, row-step}
use Rattle.pf_text.specs.Page.{table_writer, text_given}
use Rattle.pf_text.proofs.table.write_fields.Goals as goal

pub loop-at-init : goal.loop-at-init
unfolding is_blank
loop-at-init g c = record {
  setup = c.requires.setup;
  text = sym (append-nil (text_given c.args.writer.now));
  count = c.requires.fields;
  blank = rw c.requires.wrote refl;
}

pub loop-at-preserved : goal.loop-at-preserved
loop-at-preserved g c =
    let inv = c.loop-at.invariant in
    let e = c.in_default.ensures in
    let texts = g.F.Fields.texts c.args.fields.now in
    let at = c.loop-at.at in
    let plain : (writer_setup c.loop-at.writer).style ≢ style.NonNumeric = rw inv.setup (λ z. cc z) in
    let within : at < length texts = omega (arith, c.loop-at-test.true, c.count-at-end.ensures) in
    let fits : at + 1 ≤ 2 ^ 64 - 1 = search rules in
    let is : c.as_bytes.result.now ≡ get_or texts at [] = c.as_bytes.ensures ∙ c.write.ensures in
    let more = next_sep table_writer at ++ field_text table_writer (get_or texts at []) in
    record {
      setup = e.same ∙ inv.setup;
      text =
          (rw (inv.setup, inv.count, is) at (e.text plain))
          ∙ ap (λ t. t ++ more) inv.text
          ∙ append_assoc (text_given c.args.writer.now) (row_body table_writer (take at texts)) more
          ∙ ap (λ t. text_given c.args.writer.now ++ t) (sym (row-step table_writer texts at within));
      count = e.count ∙ rw inv.count (omega arith);
      blank = blank-step table_writer texts at (has_written c.loop-at.writer) (has_written c.write_field.new.self) within inv.blank
          (λ none. rw (inv.setup, is) at (e.wrote none plain)) e.stays;
    }
