use Rattle.async_pool.proofs.queue.Queue.new.Goals as goal

pub fifo_as-requires : goal.fifo_as-requires
fifo_as-requires g c = c.requires
