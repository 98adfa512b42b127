use Rattle.enumerate.proofs.lists.Lemmas.{site_among}
use Rattle.enumerate.proofs.walk.Walk.laws_of.Goals as goal

pub returns : goal.returns
returns g c =
    let there = site_among c.args.self.now.plan.now c.args.node c.requires.node in
    record {
      rule = c.no_dead_end.ensures.parts _ there;
      completed = c.no_dead_end.ensures.completed _ there;
      sound = c.sound_parts.ensures.parts _ there;
      counts = c.sound_parts.ensures.counts _ there;
      free = c.sound_parts.ensures.free;
      limit = c.reveal_limit.ensures;
    }
