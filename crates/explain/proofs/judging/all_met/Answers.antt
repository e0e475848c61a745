use Rattle.explain.proofs.judging.all_met.Goals as goal

pub meetings_of-requires-clause-whole : goal.meetings_of-requires-clause-whole
meetings_of-requires-clause-whole c = c.requires.judged.told

pub meetings_of-requires-clause-fit : goal.meetings_of-requires-clause-fit
meetings_of-requires-clause-fit c = c.requires.judged.fit
