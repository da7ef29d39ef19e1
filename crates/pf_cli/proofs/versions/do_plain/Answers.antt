use Rattle.pf_cli.proofs.versions.do_plain.Goals as goal

pub returns-clause-desk : goal.returns-clause-desk
returns-clause-desk g c = c.numbered.ensures.desk c.args.plain.now.text.items c.do_records-end.ensures.desk
