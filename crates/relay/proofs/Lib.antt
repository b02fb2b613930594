mod Going
mod Parts
