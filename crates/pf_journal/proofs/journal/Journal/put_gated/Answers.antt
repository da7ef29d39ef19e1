use Rattle.std.proofs.Common.{◌≡◌, ◌≢◌, ◌+◌, ◌-◌, ℕ, List, [], length, take, drop, refl, sym, ◌∙◌, ap, arith}
use Rattle.pf_journal.specs.Lines.{journal_of, texts_of}
use Rattle.pf_journal.proofs.Putting.{put_leaves, put_opens, put_records, put_rest}
use Rattle.pf_journal.proofs.Resting.{kept_opens}
use Rattle.pf_journal.proofs.Pushing.{but_first, few_added, some_texts}
use Rattle.pf_journal.proofs.Reading.{texts_of-all}
use Rattle.pf_journal.proofs.journal.Journal.put_gated.Goals as goal

pub returns-in_err-add-clause-crash : goal.returns-in_err-add-clause-crash
returns-in_err-add-clause-crash g c clean left may =
    let journal = c.args.self.now in
    let bytes = c.args.bytes.now in
    let batch = texts_of bytes in
    let added = take (length bytes - 1) (drop 1 bytes) in
    let added_is : added ≡ drop 1 (journal_of batch) = but_first bytes ∙ ap (λ (l : List ℕ). drop 1 l) c.requires.gated in
    let some : batch ≢ [] = some_texts bytes c.requires.gated (omega (arith, c.if-bytes-le1.false)) in
    put_leaves (g.D.Disk.seen journal.disk) journal.size (c.requires.kept.at_rest clean) added batch (texts_of-all bytes) some added_is left
    (c.add.ensures.crash clean left may)

pub returns-in_err-add-clause-opens : goal.returns-in_err-add-clause-opens
returns-in_err-add-clause-opens g c mixing clean few left may =
    let journal = c.args.self.now in
    let bytes = c.args.bytes.now in
    let batch = texts_of bytes in
    let added = take (length bytes - 1) (drop 1 bytes) in
    let added_is : added ≡ drop 1 (journal_of batch) = but_first bytes ∙ ap (λ (l : List ℕ). drop 1 l) c.requires.gated in
    let some : batch ≢ [] = some_texts bytes c.requires.gated (omega (arith, c.if-bytes-le1.false)) in
    put_opens (g.D.Disk.seen journal.disk) journal.size (c.requires.kept.at_rest clean) added batch (texts_of-all bytes) some added_is
    (few_added bytes few) left (c.add.ensures.mixed mixing clean left may)

pub returns-clause-kept : goal.returns-clause-kept
returns-clause-kept g c =
    let journal = c.args.self.now in
    let bytes = c.args.bytes.now in
    let batch = texts_of bytes in
    let added = take (length bytes - 1) (drop 1 bytes) in
    let added_is : added ≡ drop 1 (journal_of batch) = but_first bytes ∙ ap (λ (l : List ℕ). drop 1 l) c.requires.gated in
    let some : batch ≢ [] = some_texts bytes c.requires.gated (omega (arith, c.if-bytes-le1.false)) in
    record {
      settled = c.in_ok-add.ensures.settled;
      at_rest = λ still.
          let clean = sym c.add.ensures.calm ∙ still in
          put_rest (g.D.Disk.seen journal.disk) journal.size (c.requires.kept.at_rest clean) added batch (texts_of-all bytes) some added_is
          (g.D.Disk.seen c.add.new.disk) (c.in_ok-add.ensures.added clean) (journal.size + length added) refl;
    }

pub returns-clause-acknowledged : goal.returns-clause-acknowledged
returns-clause-acknowledged g c clean =
    let journal = c.args.self.now in
    let bytes = c.args.bytes.now in
    let batch = texts_of bytes in
    let added = take (length bytes - 1) (drop 1 bytes) in
    let added_is : added ≡ drop 1 (journal_of batch) = but_first bytes ∙ ap (λ (l : List ℕ). drop 1 l) c.requires.gated in
    let some : batch ≢ [] = some_texts bytes c.requires.gated (omega (arith, c.if-bytes-le1.false)) in
    put_records (g.D.Disk.seen journal.disk) journal.size (c.requires.kept.at_rest clean) added batch (texts_of-all bytes) some added_is
    (g.D.Disk.seen c.add.new.disk) (c.in_ok-add.ensures.added clean)

pub returns-clause-crash : goal.returns-clause-crash
returns-clause-crash g c clean left may =
    let journal = c.args.self.now in
    let bytes = c.args.bytes.now in
    let batch = texts_of bytes in
    let added = take (length bytes - 1) (drop 1 bytes) in
    let added_is : added ≡ drop 1 (journal_of batch) = but_first bytes ∙ ap (λ (l : List ℕ). drop 1 l) c.requires.gated in
    let some : batch ≢ [] = some_texts bytes c.requires.gated (omega (arith, c.if-bytes-le1.false)) in
    put_leaves (g.D.Disk.seen journal.disk) journal.size (c.requires.kept.at_rest clean) added batch (texts_of-all bytes) some added_is left
    (c.add.ensures.crash clean left may)

pub returns-clause-opens : goal.returns-clause-opens
returns-clause-opens g c mixing clean few left may =
    let journal = c.args.self.now in
    let bytes = c.args.bytes.now in
    let batch = texts_of bytes in
    let added = take (length bytes - 1) (drop 1 bytes) in
    let added_is : added ≡ drop 1 (journal_of batch) = but_first bytes ∙ ap (λ (l : List ℕ). drop 1 l) c.requires.gated in
    let some : batch ≢ [] = some_texts bytes c.requires.gated (omega (arith, c.if-bytes-le1.false)) in
    put_opens (g.D.Disk.seen journal.disk) journal.size (c.requires.kept.at_rest clean) added batch (texts_of-all bytes) some added_is
    (few_added bytes few) left (c.add.ensures.mixed mixing clean left may)

pub returns-then-self-ge-MOST_BYTES-clause-opens : goal.returns-then-self-ge-MOST_BYTES-clause-opens
returns-then-self-ge-MOST_BYTES-clause-opens g c mixing clean few left may = kept_opens _ _ _ _ c.args.self.now c.requires.kept clean left may

pub returns-then-bytes-le1-clause-opens : goal.returns-then-bytes-le1-clause-opens
returns-then-bytes-le1-clause-opens g c mixing clean few left may = kept_opens _ _ _ _ c.args.self.now c.requires.kept clean left may
