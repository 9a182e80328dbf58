mod Mated
mod Writing
