use Rattle.enumerate.proofs.live.Live.lend_page.Goals as goal

pub returns-in-None-clause-current : goal.returns-in-None-clause-current
returns-in-None-clause-current g c = tt
