use Rattle.iopt.proofs.running.answer_to.Goals as goal

pub returns-in-Ok-clause-answered : goal.returns-in-Ok-clause-answered
returns-in-Ok-clause-answered g c = record {
  script = c.in_ok-script.script;
  is_script = c.in_ok-script.ensures.script;
  answered = c.in-Ok.ensures;
  one_text = c.texts_are_one.ensures c.args.product c.in_ok-script.script c.in-Ok.made.items c.in-Ok.ensures;
}
