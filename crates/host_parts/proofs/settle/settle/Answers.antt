-- `host_parts::settle::settle` meets its contract. Assumes nothing.
use Rattle.host_parts.proofs.settle.settle.Goals as goal
