mod Failing
mod Lengths
